-- Values and what terms stand for. Assumes nothing.
use Rattle.std.proofs.Common.{◌≡◌, true, leb, ℤ, pos, negsuc, Some, refl, ap, subst, arith}
use Rattle.std.proofs.lemmas.Bool.{false≢true, and_parts, and_from, leb-true, le-leb, eqb-true, eq-eqb}
use Rattle.cells.specs.declared.relations.Relation.TheVariants as relation
use Rattle.cells.specs.Relations.{holds}
use Rattle.parse.specs.Model.{Term}
use Rattle.parse.specs.Model as term
use Rattle.steps.specs.State.{Value, number, cell, Bindings}
use Rattle.steps.specs.Matching.{same_value, bound, plus, value_of}
use Rattle.steps.specs.Relations.{Means, as_number, as_cell, as_variable, as_sum}
use Rattle.transitions.proofs.Basics.{some_same, no_some}

equal_yes : (a b : ℤ) → holds relation.Equal a b ≡ true → a ≡ b
equal_yes (pos a) (pos b) e =
    let h = and_parts (leb a b) (leb b a) e in
    ap pos (omega (arith, leb-true a b h.0, leb-true b a h.1))
equal_yes (pos a) (negsuc b) e = absurd (false≢true e)
equal_yes (negsuc a) (pos b) e = absurd (false≢true e)
equal_yes (negsuc a) (negsuc b) e =
    let h = and_parts (leb b a) (leb a b) e in
    ap negsuc (omega (arith, leb-true b a h.0, leb-true a b h.1))

equal_refl : (a : ℤ) → holds relation.Equal a a ≡ true
equal_refl (pos a) = and_from (leb a a) (leb a a) (le-leb a a (omega arith)) (le-leb a a (omega arith))
equal_refl (negsuc a) = and_from (leb a a) (leb a a) (le-leb a a (omega arith)) (le-leb a a (omega arith))

pub same_yes : (v w : Value) → same_value v w ≡ true → v ≡ w
same_yes (number a) (number b) e = ap number (equal_yes a b e)
same_yes (number a) (cell j) e = absurd (false≢true e)
same_yes (cell i) (number b) e = absurd (false≢true e)
same_yes (cell i) (cell j) e = ap cell (eqb-true i j e)

pub same_refl : (v : Value) → same_value v v ≡ true
same_refl (number a) = equal_refl a
same_refl (cell i) = eq-eqb i i refl

-- a term's value is what it stands for
pub means_value : {θ : Bindings} {t : Term} {v : Value} → Means θ t v → value_of θ t ≡ Some v
means_value (as_number n) = refl
means_value (as_cell k) = refl
means_value (as_variable i v e) = ap (λ (w : Value). Some w) e
means_value (as_sum i m n e) = ap (λ (w : Value). plus w n) e

pub value_means : (θ : Bindings) (t : Term) (v : Value) → value_of θ t ≡ Some v → Means θ t v
value_means θ (term.number n) v e = subst (Means θ (term.number n)) (some_same e) (as_number n)
value_means θ (term.cell k) v e = subst (Means θ (term.cell k)) (some_same e) (as_cell k)
value_means θ (term.variable i) v e = as_variable i v (some_same e)
value_means θ (term.sum i n) v e = at (bound θ i) refl e
  where
    at : (w : Value) → bound θ i ≡ w → plus w n ≡ Some v → Means θ (term.sum i n) v
    at (number m) b e = subst (Means θ (term.sum i n)) (some_same e) (as_sum i m n b)
    at (cell k) b e = no_some e
