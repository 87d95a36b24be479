-- Facts of the store as the code holds them: where they stand, and what a move makes of them. Assumes nothing.
use Rattle.std.proofs.Common.{◌≡◌, ℕ, zero, suc, ◌+◌, ◌<◌, ◌≤◌, true, false, List, [], ◌∷◌, ◌++◌, map, length, get_or, take, drop, Result, Ok, Err, sym, refl, ap, ◌∙◌, subst, ⊎_elim, arith, lt-ltb, eq-eqb}
use Rattle.std.specs.List.{insert, remove}
use Rattle.std.specs.List.Sorted.{IsSearchInRange, IsBinarySearchResult, IsNonDecreasingBy}
use Rattle.std.specs.Ordering.{nat_cmp, ordering_index}
use Rattle.std.proofs.lemmas.Cmp.{ranked}
use Rattle.std.proofs.lemmas.List.{map-append, take-map, drop-map}
use Rattle.std.proofs.lemmas.Bool.{cases_lt}
use Rattle.std.proofs.lemmas.Bool.Decides.{nat_tests}
use Rattle.facts.specs.declared.fact.Stored.{Stored as CodeStored}
use Rattle.facts.specs.Views.{stored}
use Rattle.steps.specs.State.{Stored}
use Rattle.steps.specs.Matching.{among}
use Rattle.steps.specs.Relations.{identifiers}
use Rattle.steps.specs.Step.{without}
use Rattle.state.specs.Orders.{ordered, numbers}
use Rattle.state.specs.Stores.{Place, placed, lower, last_or, may_return, returned, may_follow, followed, followed_next}
use Rattle.state.proofs.Ends.{pushed_on}
use Rattle.state.proofs.Ordered.{Rises, rises, ordered_by, rises_push, rises_pop, rises_less, removed_there, placed_at, rises_placed, among_more, among_first, last_is, same_numbers, lower_past, lower_here}

abbrev Facts : Type 0
Facts = List CodeStored

rising : (next : ℕ) (items : Facts) → ordered 0 next (numbers items) ≡ true → Rises 0 next (identifiers (map stored items))
rising next items e = rw (same_numbers items) (rises 0 next (numbers items) e)

-- one more behind the others, under the next identifier
pub pushed_rising : (next : ℕ) (items new : Facts) (x : CodeStored) → new ≡ items ++ (x ∷ []) → x.identifier ≡ next → ordered 0 next (numbers items) ≡ true → ordered 0 (next + 1) (numbers new) ≡ true
pushed_rising next items new x e i r =
    let whole : numbers new ≡ numbers items ++ (next ∷ []) = ap numbers e ∙ map-append (λ f. f.identifier) items (x ∷ []) ∙ ap (λ n. numbers items ++ (n ∷ [])) i in
    rw whole (ordered_by 0 (next + 1) (numbers items ++ (next ∷ [])) (rises_push 0 next (numbers items) (rises 0 next (numbers items) r)))

-- the last comes off
pub popped_rising : (next : ℕ) (items new : Facts) (x : CodeStored) → items ≡ new ++ (x ∷ []) → ordered 0 next (numbers items) ≡ true → ordered 0 x.identifier (numbers new) ≡ true
popped_rising next items new x e r =
    let whole : numbers items ≡ numbers new ++ (x.identifier ∷ []) = ap numbers e ∙ map-append (λ f. f.identifier) new (x ∷ []) in
    let R : List ℕ → Type 0 = Rises 0 next in
    ordered_by 0 x.identifier (numbers new) (rises_pop 0 next x.identifier (numbers new) (subst R whole (rises 0 next (numbers items) r)))

pub popped_next : (next : ℕ) (items new : Facts) (x : CodeStored) → items ≡ new ++ (x ∷ []) → x.identifier ≡ last_or next (map stored items)
popped_next next items new x e = sym (ap (last_or next) (pushed_on stored new items x e) ∙ last_is next (map stored new) (stored x))

-- whether a fact can be added again
pub follows : (next : ℕ) (f : Stored) (xs : List Stored) → f.identifier ≡ next → next < 65535 → length xs < 128 → may_follow next f xs ≡ true
follows next f xs i n l = rw (eq-eqb f.identifier next i, lt-ltb next 65535 n, lt-ltb (length xs) 128 l)

pub followed_yes : (next : ℕ) (f : Stored) (xs : List Stored) → may_follow next f xs ≡ true → (followed next f xs ≡ xs ++ (f ∷ [])) × (followed_next next f xs ≡ next + 1)
followed_yes next f xs e = (rw (e, followed), rw (e, followed_next))

module _ {X Y : Type 0} (f : X → Y) (xs : List X) (i : ℕ) where
  map-remove : map f (remove xs i) ≡ remove (map f xs) i
  map-remove = rw (map-append f (take i xs) (drop (suc i) xs), take-map f i xs, drop-map f (suc i) xs)

  map-insert : (x : X) → map f (insert xs i x) ≡ insert (map f xs) i (f x)
  map-insert x = rw (map-append f (take i xs) (x ∷ drop i xs), take-map f i xs, drop-map f i xs)

-- each number is above the lower end
above : (low high : ℕ) (items : Facts) (at : ℕ) (d : CodeStored) → Rises low high (numbers items) → at < length items → low < (get_or items at d).identifier
above low high [] at d r l = absurd (omega arith)
above low high (x ∷ xs) zero d r l = r.0
above low high (x ∷ xs) (suc at) d r l = let a = above x.identifier high xs at d r.1 (omega arith) in let b = r.0 in omega arith

-- none falls
none_falls : (low high : ℕ) (items : Facts) → Rises low high (numbers items) → IsNonDecreasingBy (λ f. f.identifier) items
none_falls low high [] r a b d le l = absurd (omega arith)
none_falls low high (x ∷ xs) r zero zero d le l = omega arith
none_falls low high (x ∷ xs) r zero (suc b) d le l = let h = above x.identifier high xs b d r.1 (omega arith) in omega arith
none_falls low high (x ∷ xs) r (suc a) zero d le l = absurd (omega arith)
none_falls low high (x ∷ xs) r (suc a) (suc b) d le l = none_falls x.identifier high xs r.1 a b d (omega arith) (omega arith)

module _ (i : ℕ) where
  -- a fact of the identifier is at its place
  found_at : (low high : ℕ) (items : Facts) (at : ℕ) → Rises low high (numbers items) → at < length items → ((d : CodeStored) → (get_or items at d).identifier ≡ i) → Place i (map stored items) (Ok at)
  found_at low high [] at r l e = absurd (omega arith)
  found_at low high (x ∷ xs) zero r l e =
      let q : x.identifier ≡ i = e x in
      (sym (lower_here i (stored x) (map stored xs) (omega arith)), among_first i x.identifier (identifiers (map stored xs)) (sym q))
  found_at low high (x ∷ xs) (suc at) r l e =
      let h = found_at x.identifier high xs at r.1 (omega arith) e in
      let up : x.identifier < i = omega (arith, above x.identifier high xs at x r.1 (omega arith), e x) in
      (ap suc h.0 ∙ sym (lower_past i (stored x) (map stored xs) up), among_more i x.identifier (identifiers (map stored xs)) (λ q. omega arith) ∙ h.1)

  -- between the facts of lower identifiers and those of higher ones is the place of one that is not there
  gap_at : (items : Facts) (at : ℕ) → at ≤ length items → ((k : ℕ) (d : CodeStored) → k < at → (get_or items k d).identifier < i)
      → ((k : ℕ) (d : CodeStored) → at ≤ k → k < length items → i < (get_or items k d).identifier) → Place i (map stored items) (Err at)
  gap_at [] zero l low up = (refl, refl)
  gap_at [] (suc at) l low up = absurd (omega arith)
  gap_at (x ∷ xs) zero l low up =
      let h = gap_at xs zero (omega arith) (λ k d b. absurd (omega arith)) (λ k d a b. up (suc k) d (omega arith) (omega arith)) in
      let q : i < x.identifier = up 0 x (omega arith) (omega arith) in
      (sym (lower_here i (stored x) (map stored xs) (omega arith)), among_more i x.identifier (identifiers (map stored xs)) (λ e. omega arith) ∙ h.1)
  gap_at (x ∷ xs) (suc at) l low up =
      let h = gap_at xs at (omega arith) (λ k d b. low (suc k) d (omega arith)) (λ k d a b. up (suc k) d (omega arith) (omega arith)) in
      let q : x.identifier < i = low 0 x (omega arith) in
      (ap suc h.0 ∙ sym (lower_past i (stored x) (map stored xs) q), among_more i x.identifier (identifiers (map stored xs)) (λ e. omega arith) ∙ h.1)

  -- a binary search ends at the place
  pub searched : (next : ℕ) (items : Facts) (r : Result ℕ ℕ) → ordered 0 next (numbers items) ≡ true → IsSearchInRange r (length items) → IsBinarySearchResult (λ f. nat_cmp f.identifier i) items r → Place i (map stored items) r
  searched next items (Ok at) up l e = found_at 0 next items at (rises 0 next (numbers items) up) l (λ d. ranked _ i _ (sym (e d)))
  searched next items (Err at) up l e =
      let rise : IsNonDecreasingBy (λ f. ordering_index (nat_cmp f.identifier i)) items = λ a b d le h.
      let n = none_falls 0 next items (rises 0 next (numbers items) up) a b d le h in grind (arith, nat_tests) in
      gap_at items at l (λ k d b. ranked _ i _ (sym ((e rise).0 k d (omega arith) b))) (λ k d a b. ranked _ i _ (sym ((e rise).1 k d a b)))

-- the fact of an identifier that is there goes
module _ (next at : ℕ) (items new : Facts) (w : new ≡ remove items at) (r : ordered 0 next (numbers items) ≡ true) where
  pub taken_rising : ordered 0 next (numbers new) ≡ true
  taken_rising = rw (w, map-remove (λ f. f.identifier) items at) (ordered_by 0 next (remove (numbers items) at) (rises_less 0 next (numbers items) at (rises 0 next (numbers items) r)))

  pub taken_facts : (i : ℕ) → Place i (map stored items) (Ok at) → map stored new ≡ without (i ∷ []) (map stored items)
  taken_facts i p =
      ap (map stored) w ∙ map-remove stored items at ∙ ap (remove (map stored items)) p.0 ∙ removed_there i 0 next (map stored items) (rising next items r) p.1

-- a fact that is not there comes back
module _ (next at : ℕ) (f : CodeStored) (items new : Facts) (w : new ≡ insert items at f) (p : Place f.identifier (map stored items) (Err at)) where
  pub back_facts : map stored new ≡ placed (stored f) (map stored items)
  back_facts = ap (map stored) w ∙ map-insert stored items at f ∙ ap (λ k. insert (map stored items) k (stored f)) p.0 ∙ sym (placed_at (stored f) (map stored items))

  pub back_rising : 0 < f.identifier → f.identifier < next → ordered 0 next (numbers items) ≡ true → ordered 0 next (numbers new) ≡ true
  back_rising a b r =
      let all : numbers new ≡ identifiers (placed (stored f) (map stored items)) = sym (same_numbers new) ∙ ap identifiers back_facts in
      rw all (ordered_by 0 next (identifiers (placed (stored f) (map stored items))) (rises_placed (stored f) 0 next (map stored items) (rising next items r) a b p.1))

-- whether a fact can come back
pub may_come : (next : ℕ) (f : Stored) (xs : List Stored) → 0 < f.identifier → f.identifier < next → among f.identifier (identifiers xs) ≡ false → length xs < 128 → may_return next f xs ≡ true
may_come next f xs a b n l = rw (lt-ltb 0 f.identifier a, lt-ltb f.identifier next b, n, lt-ltb (length xs) 128 l)

pub returned_yes : (next : ℕ) (f : Stored) (xs : List Stored) → may_return next f xs ≡ true → returned next f xs ≡ placed f xs
returned_yes next f xs e = rw (e, returned)

-- a place is not past the end
pub lower_most : (i : ℕ) (xs : List Stored) → lower i xs ≤ length xs
lower_most i [] = omega arith
lower_most i (x ∷ xs) =
    ⊎_elim
    (λ a. rw (lower_past i x xs a) (let h = lower_most i xs in omega arith))
    (λ a. rw (lower_here i x xs a) (omega arith))
    (cases_lt x.identifier i)
