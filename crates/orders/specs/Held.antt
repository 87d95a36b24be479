-- No more than 256 wait where the list that holds them has no more.
use Rattle.std.specs.Prelude.{◌≡◌, ℕ, ◌≤◌, List, true, reverse, length}
use Rattle.std.proofs.Common.{arith, leb, leb-true}
use Rattle.std.proofs.lemmas.List.{length-reverse}
use Rattle.bounded.specs.AtMost.{AtMost}
use Rattle.orders.specs.declared.branches.Waiting.{Waiting}
use Rattle.orders.specs.Bags.{most_waiting}

-- of a queue, whose length may have another name
pub few_queued : (xs : List Waiting) (n : ℕ) → n ≡ length xs → n ≤ 256 → length xs ≤ most_waiting
few_queued xs n e h = omega arith

-- of a stack in a bounded list
pub few_stacked : {most : ℕ} (stack : AtMost Waiting most) → leb most most_waiting ≡ true → length (reverse stack.items) ≤ most_waiting
few_stacked {most} stack e = omega (arith, length-reverse stack.items, stack.few, leb-true most most_waiting e)
