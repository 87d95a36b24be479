-- What follows from the laws of any kind.
use Rattle.std.proofs.Common.{◌≡◌, ℕ, Bool, true, false, ◌&&◌, ◌⊎◌, ℤ, Some, None, Option, sym, ap, ◌∙◌, subst, inl, inr}
use Rattle.std.proofs.lemmas.Bool.{and_parts, and_from, and_left, cases_Bool}
use Rattle.cells.specs.declared.relations.Relation.{Relation}
use Rattle.cells.specs.declared.relations.Telling.{Telling}
use Rattle.cells.specs.Relations.{meets, relation_of}
use Rattle.cells.specs.Laws.{Inhabited, Extensional, Leaves, Narrows, Answers}
use Rattle.cells.specs.Settles.{Settles}

module _ (content : ℕ → Bool) (member : ℕ → ℤ → Bool) (narrowed : ℕ → Telling → ℤ → Option ℕ) (asked : ℕ → Relation → ℤ → Bool)
    (inhabited : Inhabited content member) (extensional : Extensional content member) (narrows : Narrows content member narrowed) (answers : Answers member asked) where
  -- narrowing that left something
  pub left_by : (c d : ℕ) (t : Telling) (n : ℤ) → narrowed c t n ≡ Some d → (content d ≡ true) × ((v : ℤ) → member d v ≡ (member c v && meets t v n))
  left_by c d t n e = subst (Leaves content member c t n) e (narrows c t n)

  -- narrowing that left nothing
  pub none_by : (c : ℕ) (t : Telling) (n : ℤ) → narrowed c t n ≡ None → (v : ℤ) → member c v ≡ true → meets t v n ≡ true → ⊥
  none_by c t n e = subst (Leaves content member c t n) e (narrows c t n)

  -- a content whose members all satisfy is left as it is
  pub unchanged : (c : ℕ) (t : Telling) (n : ℤ) → content c ≡ true → ((v : ℤ) → member c v ≡ true → meets t v n ≡ true) → narrowed c t n ≡ Some c
  unchanged c t n k all = at (narrowed c t n) (narrows c t n)
    where
      same : (v : ℤ) → (member c v && meets t v n) ≡ member c v
      same v = by (cases_Bool (member c v))
        where
          by : (member c v ≡ true) ⊎ (member c v ≡ false) → (member c v && meets t v n) ≡ member c v
          by (inl m) = and_from _ _ m (all v m) ∙ sym m
          by (inr m) = and_left _ _ m ∙ sym m

      at : (o : Option ℕ) → Leaves content member c t n o → o ≡ Some c
      at (Some d) l = ap (λ (x : ℕ). Some x) (extensional d c l.0 k (λ v. l.1 v ∙ same v))
      at None l = let w = inhabited c k in absurd (l w.0 w.1 (all w.0 w.1))

  -- what is left satisfies
  pub satisfied : (c d : ℕ) (t : Telling) (n : ℤ) → narrowed c t n ≡ Some d → (v : ℤ) → member d v ≡ true → meets t v n ≡ true
  satisfied c d t n e v m = (and_parts (member c v) (meets t v n) (sym ((left_by c d t n e).1 v) ∙ m)).1

  pub settles : Settles content narrowed asked
  settles = record {
    stays = λ c d t n e. unchanged d t n (left_by c d t n e).0 (satisfied c d t n e);
    says = λ c d t n e. (answers d (relation_of t) n).1 (satisfied c d t n e);
    keeps = λ c t n k a. unchanged c t n k ((answers c (relation_of t) n).0 a);
  }
