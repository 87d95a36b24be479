-- Where the heads of rules speak of a predicate, in the order they are tried. Assumes nothing.
use Rattle.std.specs.Prelude.{ℕ, ◌+◌, cond, List, [], ◌∷◌, ◌++◌}
use Rattle.parse.specs.Model.{Mention}
use Rattle.parse.specs.Rules.{Rule}
use Rattle.book.specs.Predicates.{Predicate, predicates_agree, predicate_of}
use Rattle.account.specs.declared.occurrences.Occurrence.{Occurrence}

-- the heads of a rule as written: the kept ones, then the removed ones
abbrev pub heads_of : Rule → List Mention
heads_of r = r.kept ++ r.removed

-- the occurrence at head j of rule i, if the head is of the predicate
abbrev pub at_head : Predicate → ℕ → ℕ → Mention → List Occurrence
at_head q i j f = cond (predicates_agree (predicate_of f) q) (record { rule = i; head = j } ∷ []) []

-- those among heads of rule i, the first of which is head j, from right to left
abbrev pub in_heads : Predicate → ℕ → ℕ → List Mention → List Occurrence
in_heads q i j [] = []
in_heads q i j (f ∷ fs) = in_heads q i (j + 1) fs ++ at_head q i j f

abbrev pub in_rule : Predicate → ℕ → Rule → List Occurrence
in_rule q i r = in_heads q i 0 (heads_of r)

-- those in rules, the first of which is rule i, downwards
abbrev pub in_rules : Predicate → ℕ → List Rule → List Occurrence
in_rules q i [] = []
in_rules q i (r ∷ rs) = in_rule q i r ++ in_rules q (i + 1) rs
