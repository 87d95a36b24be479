-- For a program that keeps its branches in a table: the paths of its rows.
use Rattle.std.specs.Prelude.{ℕ, zero, suc, ◌+◌, List, [], ◌∷◌, ◌++◌, map, slice_index_or}
use Rattle.tree.specs.Walks.{Path}

-- the path of the i-th row of a table whose rows have these paths
abbrev pub name : List Path → ℕ → Path
name names i = slice_index_or names i []

-- the paths of the waiting branches of a bag, each of which has the number of its row
abbrev pub called : {W : Type 0} → (W → ℕ) → List Path → List W → List Path
called num names bag = map (λ w. name names (num w)) bag

-- k numbers, from the first on
abbrev pub numbers_from : ℕ → ℕ → List ℕ
numbers_from first zero = []
numbers_from first (suc k) = numbers_from first k ++ ((first + k) ∷ [])
