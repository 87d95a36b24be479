-- Guards that are true are entailed, and the history has what fired. Assumes nothing.
use Rattle.std.proofs.Common.{◌≡◌, ℕ, ◌≤◌, true, false, not, ◌&&◌, ◌||◌, eqb, ◌⊎◌, List, [], ◌∷◌, length, get_or, ℤ, Some, None, Option, sym, refl, ◌∙◌, subst, inl, inr, arith}
use Rattle.std.proofs.lemmas.Bool.{true≢false, false≢true, and_parts, and_from, or_cases, or_left, or_right, eqb-true, eq-eqb, ltb-true, ltb-false, cases_Bool, not-true, not_from_false}
use Rattle.cells.specs.declared.relations.Relation.{Relation}
use Rattle.cells.specs.Relations.{holds}
use Rattle.parse.specs.Model.{Asking}
use Rattle.steps.specs.Program.{Rule}
use Rattle.steps.specs.State.{Kind, Value, number, cell, Bindings, Firing, State}
use Rattle.steps.specs.Matching.{value_of, satisfies, compares, guard_true, same_identifiers, has_fired, removes, Combination, may_fire}
use Rattle.steps.specs.Relations.{In, here, there, Every, every_none, every_more, MayBe, itself, a_member, Entailed}
use Rattle.transitions.specs.Lawful.{Lawful}
use Rattle.transitions.proofs.Values.{means_value, value_means}

module _ (K : Kind) (law : Lawful K) (cells : List ℕ) where
  -- what a value may be satisfies
  satisfied_by : (v : Value) (r : Relation) (n : ℤ) → satisfies K cells v r n ≡ true → (m : ℤ) → MayBe K cells v m → holds r m n ≡ true
  satisfied_by v r n e m (itself k) = e
  satisfied_by v r n e m (a_member k w h) = (law.answers (get_or cells k 0) r n).0 e w h

  satisfies_if : (v : Value) (r : Relation) (n : ℤ) → ((m : ℤ) → MayBe K cells v m → holds r m n ≡ true) → satisfies K cells v r n ≡ true
  satisfies_if (number m) r n f = f m (itself m)
  satisfies_if (cell k) r n f = (law.answers (get_or cells k 0) r n).1 (λ m h. f m (a_member k m h))

  entails : (θ : Bindings) (a : Asking) (l r : Option Value) → value_of θ a.left ≡ l → value_of θ a.right ≡ r → compares K cells l a.relation r ≡ true → Entailed K cells θ a
  entails θ a None r p q e = absurd (false≢true e)
  entails θ a (Some l) None p q e = absurd (false≢true e)
  entails θ a (Some l) (Some (cell k)) p q e = absurd (false≢true e)
  entails θ a (Some l) (Some (number n)) p q e = record {
    value = l;
    limit = n;
    left = value_means θ a.left l p;
    right = value_means θ a.right (number n) q;
    satisfied = satisfied_by l a.relation n e;
  }

  entailed : (θ : Bindings) (a : Asking) → Entailed K cells θ a → compares K cells (value_of θ a.left) a.relation (value_of θ a.right) ≡ true
  entailed θ a e = rw (means_value e.left, means_value e.right) (satisfies_if e.value a.relation e.limit e.satisfied)

  pub guard_holds : (θ : Bindings) (as' : List Asking) → guard_true K cells θ as' ≡ true → Every (Entailed K cells θ) as'
  guard_holds θ [] e = every_none
  guard_holds θ (a ∷ as') e =
      let h = and_parts (compares K cells (value_of θ a.left) a.relation (value_of θ a.right)) (guard_true K cells θ as') e in
      every_more (entails θ a (value_of θ a.left) (value_of θ a.right) refl refl h.0) (guard_holds θ as' h.1)

  pub guard_is : (θ : Bindings) (as' : List Asking) → Every (Entailed K cells θ) as' → guard_true K cells θ as' ≡ true
  guard_is θ as' every_none = refl
  guard_is θ as' (every_more {x = a} {xs = bs} e es) = and_from (compares K cells (value_of θ a.left) a.relation (value_of θ a.right)) (guard_true K cells θ bs) (entailed θ a e) (guard_is θ bs es)

-- the history
same_numbers : (is js : List ℕ) → same_identifiers is js ≡ true → is ≡ js
same_numbers [] [] e = refl
same_numbers [] (j ∷ js) e = absurd (false≢true e)
same_numbers (i ∷ is) [] e = absurd (false≢true e)
same_numbers (i ∷ is) (j ∷ js) e =
    let h = and_parts (eqb i j) (same_identifiers is js) e in
    let p : i ≡ j = eqb-true i j h.0 in
    let q : is ≡ js = same_numbers is js h.1 in
    cc

numbers_same : (is : List ℕ) → same_identifiers is is ≡ true
numbers_same [] = refl
numbers_same (i ∷ is) = and_from (eqb i i) (same_identifiers is is) (eq-eqb i i refl) (numbers_same is)

pub fired_in : (T : List Firing) (r : ℕ) (is : List ℕ) → has_fired T r is ≡ true → In (record { rule = r; identifiers = is }) T
fired_in [] r is e = absurd (false≢true e)
fired_in (f ∷ T) r is e = at (λ q. fired_in T r is q) (or_cases (eqb r f.rule && same_identifiers is f.identifiers) (has_fired T r is) e)
  where
    at : (has_fired T r is ≡ true → In (record { rule = r; identifiers = is }) T) → ((eqb r f.rule && same_identifiers is f.identifiers) ≡ true) ⊎ (has_fired T r is ≡ true) → In (record { rule = r; identifiers = is }) (f ∷ T)
    at g (inl a) =
        let h = and_parts (eqb r f.rule) (same_identifiers is f.identifiers) a in
        let p : r ≡ f.rule = eqb-true r f.rule h.0 in
        let q : is ≡ f.identifiers = same_numbers is f.identifiers h.1 in
        let k : f ≡ record { rule = r; identifiers = is } = λ i. record { rule = sym p i; identifiers = sym q i } in
        subst (λ (z : Firing). In z (f ∷ T)) k here
    at g (inr b) = there (g b)

pub in_fired : (T : List Firing) (r : ℕ) (is : List ℕ) → In (record { rule = r; identifiers = is }) T → has_fired T r is ≡ true
in_fired T r is m = by (record { rule = r; identifiers = is }) T m
  where
    by : (x : Firing) (T : List Firing) → In x T → has_fired T x.rule x.identifiers ≡ true
    by x [] m = elim m [ ]
    by x (f ∷ T) here = or_left (eqb x.rule x.rule && same_identifiers x.identifiers x.identifiers) (has_fired T x.rule x.identifiers) (and_from (eqb x.rule x.rule) (same_identifiers x.identifiers x.identifiers) (eq-eqb x.rule x.rule refl) (numbers_same x.identifiers))
    by x (f ∷ T) (there m) = or_right (eqb x.rule f.rule && same_identifiers x.identifiers f.identifiers) (has_fired T x.rule x.identifiers) (by x T m)

-- whether a rule may fire
pub record Ready (K : Kind) (s : State) (r : ℕ) (x : Rule) (c : Combination) : Type 0 where
  pub guard : Every (Entailed K s.cells c.bindings) x.guard
  pub fresh : length x.heads ≤ x.kept → In (record { rule = r; identifiers = c.identifiers }) s.history → ⊥

pub ready : (K : Kind) (law : Lawful K) (s : State) (r : ℕ) (x : Rule) (c : Combination) → may_fire K s r x c ≡ true → Ready K s r x c
ready K law s r x c e =
    let h = and_parts (guard_true K s.cells c.bindings x.guard) (removes x || not (has_fired s.history r c.identifiers)) e in
    record { guard = guard_holds K law s.cells c.bindings x.guard h.0; fresh = at (or_cases (removes x) (not (has_fired s.history r c.identifiers)) h.1) }
  where
    at : (removes x ≡ true) ⊎ (not (has_fired s.history r c.identifiers) ≡ true) → length x.heads ≤ x.kept → In (record { rule = r; identifiers = c.identifiers }) s.history → ⊥
    at (inl a) k m = let l = ltb-true x.kept (length x.heads) a in omega arith
    at (inr b) k m = true≢false (sym (in_fired s.history r c.identifiers m) ∙ not-true (has_fired s.history r c.identifiers) b)

pub fires_if : (K : Kind) (law : Lawful K) (s : State) (r : ℕ) (x : Rule) (c : Combination) → Ready K s r x c → may_fire K s r x c ≡ true
fires_if K law s r x c y =
    and_from (guard_true K s.cells c.bindings x.guard) (removes x || not (has_fired s.history r c.identifiers))
    (guard_is K law s.cells c.bindings x.guard y.guard) (at (cases_Bool (removes x)) (cases_Bool (has_fired s.history r c.identifiers)))
  where
    at : (removes x ≡ true) ⊎ (removes x ≡ false) → (has_fired s.history r c.identifiers ≡ true) ⊎ (has_fired s.history r c.identifiers ≡ false) → (removes x || not (has_fired s.history r c.identifiers)) ≡ true
    at (inl a) w = or_left (removes x) (not (has_fired s.history r c.identifiers)) a
    at (inr a) (inl b) = absurd (y.fresh (ltb-false x.kept (length x.heads) a) (fired_in s.history r c.identifiers b))
    at (inr a) (inr b) = or_right (removes x) (not (has_fired s.history r c.identifiers)) (not_from_false (has_fired s.history r c.identifiers) b)
