-- Occurrences found in the table.
use Rattle.std.proofs.Common.{◌≡◌, ℕ, zero, suc, ◌+◌, ◌<◌, true, eqb, List, [], ◌∷◌, ◌++◌, map, length, get_or, Some, None, Option, Bor, vec_items, sym, refl, ap, ◌∙◌, arith, ltb-true, ne_eqb, eqb-true, zero-add, add-zero}
use borrow.Author.Tests.{clash}
use Rattle.std.specs.List.{slice_get}
use Rattle.std.specs.Option.{option_copied}
use Rattle.std.specs.Slice.{IsItemAt}
use Rattle.std.proofs.lemmas.Bool.{and_parts}
use Rattle.std.proofs.lemmas.Option.{slice_get-map, slice_get-get_or, slice_get_past, slice_get_within}
use Rattle.steps.specs.Program as model
use Rattle.steps.specs.Program.{occurrences_in, occurrences_from, occurrences}
use Rattle.steps.specs.Step.{occurrence_at}
use Rattle.rulebook.specs.declared.rows.Span.{Span}
use Rattle.rulebook.specs.declared.rows.Named.{Named}
use Rattle.rulebook.specs.declared.rows.Occurrence.{Occurrence}
use Rattle.rulebook.specs.declared.settled.Book.{Book}
use Rattle.rulebook.specs.Rows.{slice}
use Rattle.rulebook.specs.Tables.{rule_in, program}
use Rattle.rulebook.specs.Occurrences.{occurrence, occurrence_if, Reached, headed, occurring, same_occurrences, listed_from}

same_first : (x y : model.Occurrence) → eqb x.rule y.rule ≡ true → eqb x.head y.head ≡ true → x ≡ y
same_first x y p q =
    ap (λ (z : ℕ). record { rule = z; head = x.head }) (eqb-true x.rule y.rule p)
    ∙ ap (λ (z : ℕ). record { rule = y.rule; head = z }) (eqb-true x.head y.head q)

same_is : (xs ys : List model.Occurrence) → same_occurrences xs ys ≡ true → xs ≡ ys
same_is [] [] h = refl
same_is [] (y ∷ ys) h = absurd (clash h)
same_is (x ∷ xs) [] h = absurd (clash h)
same_is (x ∷ xs) (y ∷ ys) h =
    let a = and_parts _ _ h in
    let b = and_parts _ _ a.1 in
    let e = same_first x y a.0 b.0 in
    let f = same_is xs ys b.1 in
    cc

-- only the heads of rules tell where a predicate occurs
same_heads : (b : Book) (rs : List Named) (p r : ℕ) → occurrences_from p r (map (λ n. rule_in b n.rule) rs) ≡ occurrences_from p r (map headed rs)
same_heads b [] p r = refl
same_heads b (x ∷ rs) p r = ap (λ (z : List model.Occurrence). occurrences_in p r 0 (headed x).heads ++ z) (same_heads b rs p (suc r))

module _ (rules : List Named) (table : List Occurrence) where
  listed_at : (p i : ℕ) (ss : List Span) (d : Span) → listed_from rules table p ss ≡ true → i < length ss →
      (map occurrence (slice table (get_or ss i d)) ≡ occurring rules (i + p)) × (length (slice table (get_or ss i d)) < 255)
  listed_at p i [] d h lt = absurd (omega arith)
  listed_at p zero (s ∷ ss) d h lt =
      let a = and_parts _ _ (and_parts _ _ h).0 in
      (same_is _ _ a.0 ∙ ap (occurring rules) (sym (zero-add p)), ltb-true _ _ a.1)
  listed_at p (suc i) (s ∷ ss) d h lt =
      let e : i + suc p ≡ suc i + p = omega arith in
      let a = listed_at (suc p) i ss d (and_parts _ _ h).1 (omega arith) in
      (a.0 ∙ ap (occurring rules) e, a.1)

pub none_at_0 : (os : List model.Occurrence) → None ≡ occurrence_at os 0
none_at_0 [] = refl
none_at_0 (o ∷ os) = none_at_0 os

-- occurrences are counted from 1
at_place : (os : List model.Occurrence) (i : ℕ) → slice_get os i ≡ occurrence_at os (suc i)
at_place [] i = refl
at_place (o ∷ os) zero = refl
at_place (o ∷ os) (suc i) = rw (ne_eqb (suc (suc i)) 1 (λ e. omega arith), occurrence_at) (at_place os i)

copied_row : {X : Type 0} (xs : List X) (i : ℕ) (r : Option (Bor X)) → IsItemAt xs i r → option_copied r ≡ slice_get xs i
copied_row xs i None h = sym (slice_get_past xs i h.3)
copied_row xs i (Some x) h = ap Some h.1 ∙ sym (slice_get-get_or xs i x.now h.3.0)

-- the occurrences of predicate p are the rows of its place; r is the row at i, the occurrence of number n
module _ (b : Book) (p : ℕ) (few : p < 32) (s : Span) (at : s ≡ get_or (vec_items b.places) p s) (row : List Occurrence) (is : row ≡ slice (vec_items b.occurrences) s) where
  rows : (map occurrence row ≡ occurrences (program b) p) × (length row < 255)
  rows =
      let a = and_parts _ _ b.listed in
      let many : length (vec_items b.places) ≡ 32 = eqb-true _ _ a.0 in
      let l = listed_at (vec_items b.rules) (vec_items b.occurrences) 0 p (vec_items b.places) s a.1 (omega arith) in
      let e : row ≡ slice (vec_items b.occurrences) (get_or (vec_items b.places) p s) = is ∙ ap (slice (vec_items b.occurrences)) at in
      (ap (map occurrence) e ∙ l.0 ∙ ap (occurring (vec_items b.rules)) (add-zero p) ∙ sym (same_heads b (vec_items b.rules) p 0), omega (arith, l.1, ap length e))

  pub row_at : (i : ℕ) (o : Option (Bor Occurrence)) (r : Option Occurrence) → IsItemAt row i o → r ≡ option_copied o → (n : ℕ) → n ≡ suc i → (occurrence_if r ≡ occurrence_at (occurrences (program b) p) n) × Reached n r
  row_at i o r item copied n counted = (found, reached r read)
    where
      read : r ≡ slice_get row i
      read = copied ∙ copied_row row i o item

      found : occurrence_if r ≡ occurrence_at (occurrences (program b) p) n
      found =
          ap occurrence_if read ∙ sym (slice_get-map occurrence row i) ∙ at_place (map occurrence row) i
          ∙ ap (occurrence_at (map occurrence row)) (sym counted) ∙ ap (λ (z : List model.Occurrence). occurrence_at z n) rows.0

      reached : (x : Option Occurrence) → x ≡ slice_get row i → Reached n x
      reached None e = tt
      reached (Some x) e = omega (arith, rows.1, slice_get_within row i x (sym e))
