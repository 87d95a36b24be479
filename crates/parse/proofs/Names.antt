-- Names in a table. Assumes nothing.
use Rattle.std.proofs.Common.{◌≡◌, ℕ, zero, suc, ◌<◌, Bool, true, false, cond, ◌&&◌, ◌||◌, eqb, List, [], ◌∷◌, length, Option, Some, None, MatchOption, MatchBool, map, sym, refl, ap, ◌∙◌, arith}
use Rattle.std.proofs.lemmas.Bool.{eqb-true, eq-eqb, and_parts, false≢true}
use Rattle.std.proofs.lemmas.List.{length-map}
use Rattle.syntax.specs.Grammar.{same_name, among}
use Rattle.parse.specs.Flat.{index_of}
use Rattle.parse.specs.Scopes.{Found}
use Rattle.std.specs.List.{AllWithin, HoldsAt}

pub same_refl : (a : List ℕ) → same_name a a ≡ true
same_refl [] = refl
same_refl (a ∷ s) = ap (λ t. t && same_name s s) (eq-eqb a a refl) ∙ same_refl s

pub same_only : (a b : List ℕ) → same_name a b ≡ true → a ≡ b
same_only [] [] h = refl
same_only [] (b ∷ t) h = absurd (false≢true h)
same_only (a ∷ s) [] h = absurd (false≢true h)
same_only (a ∷ s) (b ∷ t) h = let p = and_parts (eqb a b) (same_name s t) h in λ i. eqb-true a b p.0 i ∷ same_only s t p.1 i

pub same_yes : (a b : List ℕ) → a ≡ b → same_name a b ≡ true
same_yes a b e = ap (λ t. same_name a t) (sym e) ∙ same_refl a

pub same_no : (a b : List ℕ) → (a ≡ b → ⊥) → same_name a b ≡ false
same_no a b n = go (same_name a b) refl
  where
    go : (t : Bool) → same_name a b ≡ t → same_name a b ≡ false
    go true h = absurd (n (same_only a b h))
    go false h = h

-- a name among those of some values, and the first that has it
module _ {X : Type 0} (name : X → List ℕ) (v : List ℕ) where
  abbrev pub Has : X → Type 0
  Has x = name x ≡ v

  abbrev pub Lacks : X → Type 0
  Lacks x = name x ≡ v → ⊥

  all_lack : (xs : List X) → AllWithin Lacks xs 0 (length xs) → among (map name xs) v ≡ false
  all_lack [] h = refl
  all_lack (x ∷ xs) h =
      let n = same_no (name x) v (h 0 x (omega arith) (omega arith)) in
      let k = all_lack xs (λ k d a b. h (suc k) d (omega arith) (omega arith)) in
      ap (λ t. t || among (map name xs) v) n ∙ k

  one_has : (xs : List X) (i : ℕ) → i < length xs → HoldsAt Has xs i → among (map name xs) v ≡ true
  one_has [] i h at = absurd (omega arith)
  one_has (x ∷ xs) zero h at = ap (λ t. t || among (map name xs) v) (same_yes (name x) v (at x))
  one_has (x ∷ xs) (suc i) h at = ap (λ t. same_name (name x) v || t) (one_has xs i (omega arith) (λ d. at d)) ∙ or_true (same_name (name x) v)
    where
      or_true : (t : Bool) → t || true ≡ true
      or_true true = refl
      or_true false = refl

  first_has : (xs : List X) (i : ℕ) → i < length xs → HoldsAt Has xs i → AllWithin Lacks xs 0 i → index_of (map name xs) v ≡ i
  first_has [] i h at none = absurd (omega arith)
  first_has (x ∷ xs) zero h at none = ap (λ t. cond t 0 (suc (index_of (map name xs) v))) (same_yes (name x) v (at x))
  first_has (x ∷ xs) (suc i) h at none =
      let n = same_no (name x) v (none 0 x (omega arith) (omega arith)) in
      let k = first_has xs i (omega arith) (λ d. at d) (λ k d a b. none (suc k) d (omega arith) (omega arith)) in
      ap (λ t. cond t 0 (suc (index_of (map name xs) v))) n ∙ ap suc k

  pub found_first : (xs : List X) (r : Option ℕ) → MatchOption r (AllWithin Lacks xs 0 (length xs)) (λ i. (i < length xs) × HoldsAt Has xs i × AllWithin Lacks xs 0 i) → Found (map name xs) v r
  found_first xs None h = all_lack xs h
  found_first xs (Some i) (l, y, n) = (rw length-map l, one_has xs i l y, first_has xs i l y n)

  pub found_any : (xs : List X) (r : Bool) → MatchBool r ((k : ℕ) × (k < length xs) × HoldsAt Has xs k) (AllWithin Lacks xs 0 (length xs)) → r ≡ among (map name xs) v
  found_any xs true (k, l, y) = sym (one_has xs k l y)
  found_any xs false h = sym (all_lack xs h)
