-- States of the same parts. Assumes nothing.
use Rattle.std.proofs.Common.{◌≡◌}
use Rattle.steps.specs.State.{State}

pub same_state : (a b : State) → a.stack ≡ b.stack → a.store ≡ b.store → a.cells ≡ b.cells → a.history ≡ b.history → a.next ≡ b.next → a ≡ b
same_state a b stack store cells history next = λ i. record { stack = stack i; store = store i; cells = cells i; history = history i; next = next i }
