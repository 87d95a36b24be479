-- Told comparisons of cells: what narrowing does, and the facts that it wakes. Assumes nothing.
use Rattle.std.proofs.Common.{◌≡◌, ℕ, zero, suc, ◌+◌, ◌<◌, Bool, true, false, not, ◌&&◌, leb, ◌⊎◌, List, [], ◌∷◌, ℤ, pos, negsuc, Some, None, Option, sym, refl, ap, ◌∙◌, subst, inl, inr, arith}
use lib.Signed.{le_z, mag}
use Rattle.std.proofs.lemmas.Bool.{true≢false, false≢true, or_cases, or_left, or_right, and_parts, and_from, and_left, cases_Bool, cases_order, leb-true, not-true, not_from_false}
use Rattle.cells.specs.declared.relations.Telling.{Telling}
use Rattle.cells.specs.Relations.{meets}
use Rattle.cells.specs.Laws.{Leaves, between}
use Rattle.steps.specs.State.{Kind, Value, cell, Stored, Entry, woken}
use Rattle.steps.specs.Matching.{same_value}
use Rattle.steps.specs.Step.{mentions, woken_by}
use Rattle.steps.specs.Relations.{In, here, there}
use Rattle.steps.specs.Transitions.{Wakes, none, wakes, sleeps}
use Rattle.transitions.specs.Lawful.{Lawful}
use Rattle.transitions.proofs.Basics.{some_same}
use Rattle.transitions.proofs.Values.{same_yes, same_refl}

-- facts that mention a cell
mentioned : (k : ℕ) (vs : List Value) → mentions k vs ≡ true → In (cell k) vs
mentioned k [] e = absurd (false≢true e)
mentioned k (v ∷ vs) e = at (λ q. mentioned k vs q) (or_cases (same_value (cell k) v) (mentions k vs) e)
  where
    at : (mentions k vs ≡ true → In (cell k) vs) → (same_value (cell k) v ≡ true) ⊎ (mentions k vs ≡ true) → In (cell k) (v ∷ vs)
    at f (inl a) = subst (λ (w : Value). In (cell k) (w ∷ vs)) (same_yes (cell k) v a) here
    at f (inr b) = there (f b)

mentions_in : (v : Value) (vs : List Value) → In v vs → (k : ℕ) → cell k ≡ v → mentions k vs ≡ true
mentions_in v [] m k e = elim m [ ]
mentions_in v (w ∷ vs) here k e = or_left (same_value (cell k) v) (mentions k vs) (subst (λ (u : Value). same_value (cell k) u ≡ true) e (same_refl (cell k)))
mentions_in v (w ∷ vs) (there m) k e = or_right (same_value (cell k) w) (mentions k vs) (mentions_in v vs m k e)

pub wakes_these : (k : ℕ) (S : List Stored) → Wakes k S (woken_by k S)
wakes_these k [] = none
wakes_these k (f ∷ S) = at (mentions k f.fact.arguments) refl (wakes_these k S)
  where
    at : (b : Bool) → mentions k f.fact.arguments ≡ b → Wakes k S (woken_by k S) → Wakes k (f ∷ S) (elim b [ true ↦ woken f ∷ woken_by k S | false ↦ woken_by k S ])
    at true e w = wakes (mentioned k f.fact.arguments e) w
    at false e w = sleeps (λ m. true≢false (sym (mentions_in (cell k) f.fact.arguments m k refl) ∙ e)) w

pub these_wake : (k : ℕ) (S : List Stored) (W : List Entry) → Wakes k S W → W ≡ woken_by k S
these_wake k S W none = refl
these_wake k S W (wakes {f = f} {S = R} {W = V} m w) = at (mentions k f.fact.arguments) (mentions_in (cell k) f.fact.arguments m k refl) (these_wake k R V w)
  where
    at : (b : Bool) → b ≡ true → V ≡ woken_by k R → woken f ∷ V ≡ elim b [ true ↦ woken f ∷ woken_by k R | false ↦ woken_by k R ]
    at b e q = rw (e, q)
these_wake k S W (sleeps {f = f} {S = R} {W = V} m w) = at (mentions k f.fact.arguments) refl (these_wake k R V w)
  where
    at : (b : Bool) → mentions k f.fact.arguments ≡ b → V ≡ woken_by k R → V ≡ elim b [ true ↦ woken f ∷ woken_by k R | false ↦ woken_by k R ]
    at true e q = absurd (m (mentioned k f.fact.arguments e))
    at false e q = q

-- a whole number below a size that passes a test, if there is one
found_below : (test : ℤ → Bool) (n : ℕ) → ((v : ℤ) × (test v ≡ true)) ⊎ ((v : ℤ) → mag v < n → test v ≡ false)
found_below test zero = inr (λ v l. absurd (omega arith))
found_below test (suc n) = at (found_below test n) (cases_Bool (test (pos n))) (cases_Bool (test (negsuc n)))
  where
    Found : ℕ → Type 0
    Found n = ((v : ℤ) × (test v ≡ true)) ⊎ ((v : ℤ) → mag v < n → test v ≡ false)

    all : ((v : ℤ) → mag v < n → test v ≡ false) → test (pos n) ≡ false → test (negsuc n) ≡ false → (v : ℤ) → mag v < suc n → test v ≡ false
    all f a b (pos k) l = by (cases_order k n)
      where
        by : (k ≡ n) ⊎ ((k < n) ⊎ (n < k)) → test (pos k) ≡ false
        by (inl q) = subst (λ (z : ℕ). test (pos z) ≡ false) (sym q) a
        by (inr (inl q)) = f (pos k) q
        by (inr (inr q)) = absurd (omega arith)
    all f a b (negsuc k) l = by (cases_order k n)
      where
        by : (k ≡ n) ⊎ ((k < n) ⊎ (n < k)) → test (negsuc k) ≡ false
        by (inl q) = subst (λ (z : ℕ). test (negsuc z) ≡ false) (sym q) b
        by (inr (inl q)) = f (negsuc k) q
        by (inr (inr q)) = absurd (omega arith)

    at : Found n → (test (pos n) ≡ true) ⊎ (test (pos n) ≡ false) → (test (negsuc n) ≡ true) ⊎ (test (negsuc n) ≡ false) → Found (suc n)
    at (inl w) a b = inl w
    at (inr f) (inl a) b = inl (pos n, a)
    at (inr f) (inr a) (inl b) = inl (negsuc n, b)
    at (inr f) (inr a) (inr b) = inr (all f a b)

-- what lies between two ends is no larger than both
small : (low high v : ℤ) → between low high v ≡ true → mag v < suc (mag low + mag high)
small low (pos b) (pos k) e = let h = leb-true k b (and_parts (le_z low (pos k)) (leb k b) e).1 in omega arith
small low (negsuc b) (pos k) e = absurd (false≢true (and_parts (le_z low (pos k)) false e).1)
small (pos a) high (negsuc k) e = absurd (false≢true e)
small (negsuc a) high (negsuc k) e = let h = leb-true k a (and_parts (leb k a) (le_z (negsuc k) high) e).0 in omega arith

-- a member that satisfies, or one that does not
abbrev pub SomeMember : Kind → ℕ → Telling → ℤ → Bool → Type 0
SomeMember K c t z b = (v : ℤ) × (K.member c v ≡ true) × (meets t v z ≡ b)

module _ (K : Kind) (law : Lawful K) (c : ℕ) (t : Telling) (z : ℤ) where
  -- no member satisfies: nothing is left
  pub none_left : ((v : ℤ) → K.member c v ≡ true → meets t v z ≡ false) → K.narrowed c t z ≡ None
  none_left f = at (K.narrowed c t z) (law.narrows c t z)
    where
      at : (o : Option ℕ) → Leaves K.content K.member c t z o → o ≡ None
      at None l = refl
      at (Some d) l =
          let w = law.inhabited d l.0 in
          let p = and_parts (K.member c w.0) (meets t w.0 z) (sym (l.1 w.0) ∙ w.1) in
          absurd (true≢false (sym p.1 ∙ f w.0 p.0))

  -- nothing is left only where no member satisfies
  pub left_none : K.narrowed c t z ≡ None → (v : ℤ) → K.member c v ≡ true → meets t v z ≡ false
  left_none e v m = at (cases_Bool (meets t v z))
    where
      at : (meets t v z ≡ true) ⊎ (meets t v z ≡ false) → meets t v z ≡ false
      at (inl a) = absurd (subst (Leaves K.content K.member c t z) e (law.narrows c t z) v m a)
      at (inr b) = b

  -- what is left is the one content of the members that satisfy
  pub left_is : (d : ℕ) → Leaves K.content K.member c t z (Some d) → K.narrowed c t z ≡ Some d
  left_is d l = at (K.narrowed c t z) (law.narrows c t z)
    where
      at : (o : Option ℕ) → Leaves K.content K.member c t z o → o ≡ Some d
      at None k =
          let w = law.inhabited d l.0 in
          let p = and_parts (K.member c w.0) (meets t w.0 z) (sym (l.1 w.0) ∙ w.1) in
          absurd (k w.0 p.0 p.1)
      at (Some e) k = ap (λ (x : ℕ). Some x) (law.extensional e d k.0 l.0 (λ v. k.1 v ∙ sym (l.1 v)))

  pub leaves : (d : ℕ) → K.narrowed c t z ≡ Some d → Leaves K.content K.member c t z (Some d)
  leaves d e = subst (Leaves K.content K.member c t z) e (law.narrows c t z)

  -- all members satisfy: the content is left as it is
  pub all_left : ((v : ℤ) × (K.member c v ≡ true)) → ((v : ℤ) → K.member c v ≡ true → meets t v z ≡ true) → K.narrowed c t z ≡ Some c
  all_left w f = left_is c ((law.confined c w.0 w.1).0, λ v. at v (cases_Bool (K.member c v)))
    where
      at : (v : ℤ) → (K.member c v ≡ true) ⊎ (K.member c v ≡ false) → K.member c v ≡ (K.member c v && meets t v z)
      at v (inl m) = m ∙ sym (and_from (K.member c v) (meets t v z) m (f v m))
      at v (inr m) = m ∙ sym (and_left (K.member c v) (meets t v z) m)

  -- a content that is left as it is: it has members, and all satisfy
  pub left_all : K.narrowed c t z ≡ Some c → ((v : ℤ) × (K.member c v ≡ true)) × ((v : ℤ) → K.member c v ≡ true → meets t v z ≡ true)
  left_all e =
      let l = leaves c e in
      (law.inhabited c l.0, λ v m. (and_parts (K.member c v) (meets t v z) (sym (l.1 v) ∙ m)).1)

  -- a content that loses a member is another
  pub loses : (d : ℕ) → Leaves K.content K.member c t z (Some d) → SomeMember K c t z false → d ≡ c → ⊥
  loses d l w q =
      let m : K.member d w.0 ≡ true = subst (λ (x : ℕ). K.member x w.0 ≡ true) (sym q) w.1 in
      true≢false (sym (and_parts (K.member c w.0) (meets t w.0 z) (sym (l.1 w.0) ∙ m)).1 ∙ w.2)

  -- another content is left: some members satisfy
  pub keeps_some : (d : ℕ) → Leaves K.content K.member c t z (Some d) → SomeMember K c t z true
  keeps_some d l =
      let w = law.inhabited d l.0 in
      let p = and_parts (K.member c w.0) (meets t w.0 z) (sym (l.1 w.0) ∙ w.1) in
      (w.0, p.0, p.1)

  -- another content is left: a member is lost
  pub lost : (d : ℕ) → Leaves K.content K.member c t z (Some d) → (d ≡ c → ⊥) → SomeMember K c t z false
  lost d l q = at (found_below test (suc (mag law.lowest + mag law.highest)))
    where
      test : ℤ → Bool
      test v = K.member c v && not (meets t v z)

      at : ((v : ℤ) × (test v ≡ true)) ⊎ ((v : ℤ) → mag v < suc (mag law.lowest + mag law.highest) → test v ≡ false) → SomeMember K c t z false
      at (inl w) = let p = and_parts (K.member c w.0) (not (meets t w.0 z)) w.1 in (w.0, p.0, not-true (meets t w.0 z) p.1)
      at (inr f) = absurd (q (some_same (sym (left_is d l) ∙ all_left (k.0, k.1) all)))
        where
          k : SomeMember K c t z true
          k = keeps_some d l

          all : (v : ℤ) → K.member c v ≡ true → meets t v z ≡ true
          all v m = by (cases_Bool (meets t v z))
            where
              by : (meets t v z ≡ true) ⊎ (meets t v z ≡ false) → meets t v z ≡ true
              by (inl a) = a
              by (inr b) = absurd (true≢false (sym (and_from (K.member c v) (not (meets t v z)) m (not_from_false (meets t v z) b)) ∙ f v (small law.lowest law.highest v (law.confined c v m).1)))
