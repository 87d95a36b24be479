-- A small machine: a step to a choice of two, a step to the end 20 below the first, and two to the end 30 below the second.
use Rattle.std.specs.Prelude.{ℕ, zero, suc, [], ◌∷◌}
use Rattle.tree.specs.Walks.{Standing, branch, choice, leaf, Machine}
use Rattle.tree.specs.Laws.{Complete}

-- its states
pub data Spot : Type 0 where
  root fork left right low over : Spot

-- its steps; what it does in the states fork and over is never asked
abbrev pub small_next : Spot → Spot × Standing ℕ
small_next root = (fork, choice 2)
small_next fork = (fork, branch)
small_next left = (over, leaf 20)
small_next right = (low, branch)
small_next low = (over, leaf 30)
small_next over = (over, branch)

-- its alternatives
abbrev pub small_pick : Spot → ℕ → Spot
small_pick s zero = left
small_pick s (suc zero) = left
small_pick s (suc (suc i)) = right

-- the machine, on a branch at its start
abbrev pub small : Machine Spot ℕ
small = record { start = root; begins = branch; next = small_next; pick = small_pick }

-- its ends are 20 on path 1 and 30 on path 2, and all its edges together have four steps
abbrev pub TwoEnds : Type 0
TwoEnds = Complete small ((1 ∷ [], 20) ∷ (2 ∷ [], 30) ∷ []) 4
