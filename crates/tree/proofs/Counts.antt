-- How often a path stands in a list of paths.
use Rattle.std.proofs.Common.{◌≡◌, ℕ, zero, suc, ◌+◌, ◌<◌, ◌≤◌, eqb, ◌⊎◌, List, [], ◌∷◌, ◌++◌, map, length, get_or, sum_by, sym, refl, ap, ◌∙◌, subst, inl, inr, ⊎_elim, arith}
use Rattle.std.specs.List.{ContainsAt as Has}
use Rattle.std.specs.List.Sorted.{IsPermutation}
use Rattle.std.proofs.lemmas.Bool.{cases_eq, eq-eqb, cond-true}
use Rattle.std.proofs.lemmas.Bool.Decides.{nat_tests}
use Rattle.std.proofs.lemmas.List.Sums.{sum_by-cons}
use Rattle.std.proofs.lemmas.List.Sorted.{sum_by-IsPermutation}
use Rattle.std.proofs.lemmas.List.{same_from_push, map-id}
pub use Rattle.tree.specs.Held.{delta, times, children}
use Rattle.tree.specs.Walks.{Path}

pub delta_self : (p : Path) → delta p p ≡ 1
delta_self [] = refl
delta_self (i ∷ p) = cond-true (eqb i i) (delta p p) 0 (eq-eqb i i refl) ∙ delta_self p

pub delta_cases : (p q : Path) → (delta p q ≡ 0) ⊎ ((delta p q ≡ 1) × (p ≡ q))
delta_cases [] [] = inr (refl, refl)
delta_cases [] (j ∷ q) = inl refl
delta_cases (i ∷ p) [] = inl refl
delta_cases (i ∷ p) (j ∷ q) = let c = delta_cases p q in grind (arith, nat_tests)

pub delta_none : (p q : Path) → (p ≡ q → ⊥) → delta p q ≡ 0
delta_none p q d = let c = delta_cases p q in grind arith

pub delta_same : (p q : Path) → p ≡ q → delta p q ≡ 1
delta_same p q e = subst (λ (r : Path). delta p r ≡ 1) e (delta_self p)

pub push_nil : (p : Path) (i : ℕ) → p ++ (i ∷ []) ≡ [] → ⊥
push_nil [] i e = cc
push_nil (j ∷ p) i e = cc

pub times_append : (p : Path) (xs ys : List Path) → times p (xs ++ ys) ≡ times p xs + times p ys
times_append p [] ys = omega arith
times_append p (x ∷ xs) ys = let h = times_append p xs ys in omega arith

times_sum : (p : Path) (xs : List Path) → sum_by (delta p) xs ≡ times p xs
times_sum p [] = refl
times_sum p (x ∷ xs) = let h = times_sum p xs in let c = sum_by-cons (delta p) x xs in omega arith

pub times_shuffled : (p : Path) (xs ys : List Path) → IsPermutation xs ys → times p ys ≡ times p xs
times_shuffled p xs ys s = sym (times_sum p ys) ∙ sum_by-IsPermutation (delta p) xs ys s ∙ times_sum p xs

pub children_nil : (p : Path) (m : ℕ) → times [] (children p m) ≡ 0
children_nil p zero = refl
children_nil p (suc m) =
    let a = times_append [] (children p m) ((p ++ (suc m ∷ [])) ∷ []) in
    let h = children_nil p m in
    let z = delta_none [] (p ++ (suc m ∷ [])) (λ e. push_nil p (suc m) (sym e)) in
    omega arith

delta_push : (q p : Path) (i j : ℕ) → delta (q ++ (i ∷ [])) (p ++ (j ∷ [])) ≤ delta q p
delta_push q p i j =
    ⊎_elim
    (λ z. omega arith)
    (λ o. omega (arith, o.0, delta_same q p (same_from_push q p i j o.1).0))
    (delta_cases (q ++ (i ∷ [])) (p ++ (j ∷ [])))

delta_other : (q p : Path) (i j : ℕ) → (i ≡ j → ⊥) → delta (q ++ (i ∷ [])) (p ++ (j ∷ [])) ≡ 0
delta_other q p i j d = delta_none (q ++ (i ∷ [])) (p ++ (j ∷ [])) (λ e. d (same_from_push q p i j e).1)

children_past : (q p : Path) (i m : ℕ) → m < i → times (q ++ (i ∷ [])) (children p m) ≡ 0
children_past q p i zero l = refl
children_past q p i (suc m) l =
    let a = times_append (q ++ (i ∷ [])) (children p m) ((p ++ (suc m ∷ [])) ∷ []) in
    let h = children_past q p i m (omega arith) in
    let z = delta_other q p i (suc m) (λ e. omega arith) in
    omega arith

pub children_push : (q p : Path) (i m : ℕ) → times (q ++ (i ∷ [])) (children p m) ≤ delta q p
children_push q p i zero = omega arith
children_push q p i (suc m) =
    let a = times_append (q ++ (i ∷ [])) (children p m) ((p ++ (suc m ∷ [])) ∷ []) in
    ⊎_elim
    (λ e. omega (arith, children_past q p i m (omega arith), delta_push q p i (suc m)))
    (λ d. omega (arith, children_push q p i m, delta_other q p i (suc m) d))
    (cases_eq i (suc m))

pub children_has : (p : Path) (i m : ℕ) → 1 ≤ i → i ≤ m → 1 ≤ times (p ++ (i ∷ [])) (children p m)
children_has p i zero a b = absurd (omega arith)
children_has p i (suc m) a b =
    let t = times_append (p ++ (i ∷ [])) (children p m) ((p ++ (suc m ∷ [])) ∷ []) in
    ⊎_elim
    (λ e. omega (arith, delta_same (p ++ (i ∷ [])) (p ++ (suc m ∷ [])) (ap (λ (k : ℕ). p ++ (k ∷ [])) e)))
    (λ d. omega (arith, children_has p i m a (omega arith)))
    (cases_eq i (suc m))

module _ {X : Type 0} (f : X → Path) where
  pub times_map : (p : Path) (xs : List X) → sum_by (λ x. delta p (f x)) xs ≡ times p (map f xs)
  times_map p [] = refl
  times_map p (x ∷ xs) = let h = times_map p xs in let c = sum_by-cons (λ y. delta p (f y)) x xs in omega arith

  pub times_map_shuffled : (p : Path) (xs ys : List X) → IsPermutation xs ys → times p (map f ys) ≡ times p (map f xs)
  times_map_shuffled p xs ys s = sym (times_map p ys) ∙ sum_by-IsPermutation (λ x. delta p (f x)) xs ys s ∙ times_map p xs

-- membership, by the front of a list
module _ {X : Type 0} where
  pub has_here : (x : X) (xs : List X) → Has (x ∷ xs) x
  has_here x xs = (0, omega arith, λ d. refl)

  pub has_there : (y x : X) (xs : List X) → Has xs x → Has (y ∷ xs) x
  has_there y x xs h = (suc h.0, (let l = h.1 in omega arith), h.2)

  pub has_nil : (x : X) → Has [] x → ⊥
  has_nil x h = let l = h.1 in omega arith

  pub has_cases : (y x : X) (xs : List X) → Has (y ∷ xs) x → (y ≡ x) ⊎ Has xs x
  has_cases y x xs h = go h.0 h.1 h.2
    where
      go : (k : ℕ) → k < length (y ∷ xs) → ((d : X) → get_or (y ∷ xs) k d ≡ x) → (y ≡ x) ⊎ Has xs x
      go zero l a = inl (a y)
      go (suc k) l a = inr (k, omega arith, a)

  -- a path that counts among the paths of a list is that of an element
  pub has_found : (f : X → Path) (p : Path) (xs : List X) → 1 ≤ times p (map f xs) → (x : X) × Has xs x × (f x ≡ p)
  has_found f p [] h = absurd (omega arith)
  has_found f p (x ∷ xs) h =
      ⊎_elim
      (λ z. let b = has_found f p xs (omega arith) in (b.0, has_there x b.0 xs b.1, b.2))
      (λ o. (x, has_here x xs, sym o.1))
      (delta_cases p (f x))

  pub has_counts : (f : X → Path) (x : X) (xs : List X) → Has xs x → 1 ≤ times (f x) (map f xs)
  has_counts f x [] h = absurd (has_nil x h)
  has_counts f x (y ∷ xs) h =
      ⊎_elim
      (λ e. omega (arith, delta_same (f x) (f y) (sym (ap f e))))
      (λ m. omega (arith, has_counts f x xs m))
      (has_cases y x xs h)

-- a path counts in a list exactly if it is there
pub has_times : (p : Path) (xs : List Path) → Has xs p → 1 ≤ times p xs
has_times p xs h = let a = has_counts (λ (q : Path). q) p xs h in let b = ap (times p) (map-id xs) in omega arith

pub times_has : (p : Path) (xs : List Path) → 1 ≤ times p xs → Has xs p
times_has p xs h =
    let b = ap (times p) (map-id xs) in
    let f = has_found (λ (q : Path). q) p xs (omega arith) in
    subst (Has xs) f.2 f.1
