-- What the two orders do, on plain lists: the waiting branches in the order in which they will be given up.
use Rattle.std.specs.Prelude.{◌≡◌, ℕ, List, [], ◌∷◌, ◌++◌, Some, None, Option}
use Rattle.orders.specs.declared.branches.Waiting.{Waiting}
use Rattle.orders.specs.Bags.{branch}

-- depth first: the new list goes in front, its first branch first
abbrev pub InFront : List Waiting → List Waiting → List Waiting → Type 0
InFront before list after = after ≡ list ++ before

-- breadth first: the new list goes behind all that wait
abbrev pub Behind : List Waiting → List Waiting → List Waiting → Type 0
Behind before list after = after ≡ before ++ list

-- both give up the first of the row; of an empty row none
abbrev pub FirstOut : List Waiting → Option ℕ → List Waiting → Type 0
FirstOut before (Some n) after = (w : ℕ) × (before ≡ branch n w ∷ after)
FirstOut before None after = (before ≡ []) × (after ≡ [])
