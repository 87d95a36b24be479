-- Identifiers in their order. Assumes nothing.
use Rattle.std.specs.Prelude.{ℕ, Bool, true, false, List, [], ◌∷◌, map, nat_lt}
use Rattle.facts.specs.declared.fact.Stored.{Stored}

-- the numbers rise strictly, from above one end to below the other
abbrev pub ordered : ℕ → ℕ → List ℕ → Bool
ordered low high [] = nat_lt low high
ordered low high (n ∷ ns) = elim (nat_lt low n) [ true ↦ ordered n high ns | false ↦ false ]

-- the identifiers of facts
abbrev pub numbers : List Stored → List ℕ
numbers fs = map (λ f. f.identifier) fs
