-- Two lists in which no path stands twice and that have the same elements are shuffled.
use Rattle.std.proofs.Common.{◌≡◌, ℕ, ◌≤◌, List, [], ◌∷◌, map, sym, ap, ◌∙◌, subst, ⊎_elim, arith}
use Rattle.std.specs.List.{ContainsAt as Has, remove}
use Rattle.std.specs.List.Sorted.{IsPermutation}
use Rattle.std.proofs.lemmas.List.Sorted.{IsPermutation-refl, IsPermutation-sym, IsPermutation-cons, IsPermutation-trans, IsPermutation-remove, sum_by-IsPermutation}
use Rattle.std.proofs.ByRecursion.{has_shuffled}
use Rattle.tree.specs.Walks.{Path, Machine}
use Rattle.tree.specs.Laws.{Once, Complete}
use Rattle.tree.proofs.Counts.{delta_same, delta_cases, times, times_map_shuffled, has_here, has_there, has_nil, has_cases, has_counts, times_has}
use Rattle.std.proofs.lemmas.Bool.{cases_lt}

to_front : {X : Type 0} (x : X) (ys : List X) → Has ys x → (zs : List X) × IsPermutation ys (x ∷ zs)
to_front x ys h = (remove ys h.0, IsPermutation-remove ys h.0 x h.1 (sym (h.2 x)))

module _ {X : Type 0} (f : X → Path) where
  abbrev Single : List X → Type 0
  Single xs = (p : Path) → times p (map f xs) ≤ 1

  single_head : (x y : X) (xs : List X) → Single (x ∷ xs) → Has xs y → x ≡ y → ⊥
  single_head x y xs s h e =
      let a = s (f y) in
      let b = has_counts f y xs h in
      let c = delta_same (f y) (f x) (ap f (sym e)) in
      omega arith

  pub same_shuffled : (xs ys : List X) → Single xs → Single ys → ((x : X) → Has xs x → Has ys x) → ((x : X) → Has ys x → Has xs x) → IsPermutation xs ys
  same_shuffled [] [] a b there back = IsPermutation-refl []
  same_shuffled [] (y ∷ ys) a b there back = absurd (has_nil y (back y (has_here y ys)))
  same_shuffled (x ∷ xs) ys a b there back =
      let r = to_front x ys (there x (has_here x xs)) in
      let zs = r.0 in
      let sh : IsPermutation ys (x ∷ zs) = r.1 in
      let d : Single (x ∷ zs) = λ p. let e = times_map_shuffled f p ys (x ∷ zs) sh in let g = b p in omega arith in
      let a' : Single xs = λ p. let e = a p in omega arith in
      let d' : Single zs = λ p. let e = d p in omega arith in
      let to : (z : X) → Has xs z → Has zs z = λ z h. other x z zs (single_head x z xs a h) (has_shuffled ys (x ∷ zs) z sh (there z (has_there x z xs h))) in
      let fro : (z : X) → Has zs z → Has xs z = λ z h. other x z xs (single_head x z zs d h) (back z (has_shuffled (x ∷ zs) ys z (IsPermutation-sym ys (x ∷ zs) sh) (has_there x z zs h))) in
      IsPermutation-trans (x ∷ xs) (x ∷ zs) ys (IsPermutation-cons x xs zs (same_shuffled xs zs a' d' to fro)) (IsPermutation-sym ys (x ∷ zs) sh)
    where
      other : (u z : X) (l : List X) → (u ≡ z → ⊥) → Has (u ∷ l) z → Has l z
      other u z l d h = ⊎_elim (λ e. absurd (d e)) (λ m. m) (has_cases u z l h)

-- a list in which no path stands twice counts each at most once
times_none : (p : Path) (xs : List Path) → (Has xs p → ⊥) → times p xs ≡ 0
times_none p xs h = ⊎_elim (λ l. absurd (h (times_has p xs l))) (λ l. omega arith) (cases_lt 0 (times p xs))

pub once_times : (xs : List Path) → Once xs → (p : Path) → times p xs ≤ 1
once_times [] o p = omega arith
once_times (x ∷ xs) o p =
    ⊎_elim
    (λ z. omega (arith, once_times xs o.1 p))
    (λ e. omega (arith, e.0, times_none p xs (λ m. o.0 (subst (Has xs) e.1 m))))
    (delta_cases p x)

module _ {S E : Type 0} (M : Machine S E) where
  pub complete_same : (k l : List (Path × E)) (m n : ℕ) → Complete M k m → Complete M l n → IsPermutation k l × (m ≡ n)
  complete_same k l m n a b =
      let leaves : IsPermutation k l = same_shuffled (λ (x : Path × E). x.0) k l (once_times _ a.once) (once_times _ b.once) (λ x h. b.has x.0 x.1 (a.only x.0 x.1 h)) (λ x h. a.has x.0 x.1 (b.only x.0 x.1 h)) in
      let edges : IsPermutation a.edges b.edges = same_shuffled (λ (x : Path × ℕ). x.0) a.edges b.edges (once_times _ a.once_edge) (once_times _ b.once_edge) (λ x h. b.has_edge x.0 x.1 (a.only_edge x.0 x.1 h)) (λ x h. a.has_edge x.0 x.1 (b.only_edge x.0 x.1 h)) in
      (leaves, sym a.sums ∙ sym (sum_by-IsPermutation (λ (x : Path × ℕ). x.1) a.edges b.edges edges) ∙ b.sums)
