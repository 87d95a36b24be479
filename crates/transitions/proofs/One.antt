-- Each transition is the computed step, and the computed step is a transition. Assumes nothing.
use Rattle.std.proofs.Common.{◌≡◌, ℕ, ◌<◌, ◌≤◌, true, false, ◌⊎◌, List, [], ◌∷◌, ◌++◌, length, get_or, drop, ℤ, Some, None, Ok, Err, Option, Result, sym, refl, ap, ◌∙◌, subst, inl, inr, arith}
use Rattle.std.proofs.lemmas.Bool.{true≢false, lt-ltb, le-ltb, cases_lt, cases_eq, cases_Bool}
use Rattle.cells.specs.declared.relations.Telling.{Telling}
use Rattle.cells.specs.Relations.{meets}
use Rattle.steps.specs.Program.{Program, Rule, Occurrence, rule_at, alternative_at, occurrences}
use Rattle.steps.specs.State.{Kind, number, cell, Fact, Stored, Bindings, Entry, to_add, to_tell, to_fail, woken, active, alternative, choosing, Firing, State}
use Rattle.steps.specs.State.{Cause, history_full, broken}
use Rattle.steps.specs.Matching.{among, Combination, combination}
use Rattle.steps.specs.Step.{Outcome, ends, goes_within, with_stack, woken_by, body_entry, recorded, entries_of, occurrence_at, step_fire, step_narrow, step_try, step_active, step_replace, step}
use Rattle.steps.specs.Relations.{identifiers, Fires, Combines}
use Rattle.steps.specs.Transitions.{state, Occurs, Transition}
use Rattle.steps.specs.Transitions as move
use Rattle.transitions.specs.Lawful.{Lawful, SixVariables}
use Rattle.transitions.specs.Sound.{Rising, Sound}
use Rattle.transitions.specs.One.{OneTransition}
use Rattle.transitions.proofs.Basics.{no_cons}
use Rattle.transitions.proofs.Bodies.{entries_give, entries_break, give_entries, break_entries}
use Rattle.transitions.proofs.Wakes.{SomeMember, wakes_these, these_wake, none_left, left_none, left_is, leaves, all_left, left_all, loses, keeps_some, lost}
use Rattle.transitions.proofs.Occurrences.{head_within, six_below}
use Rattle.transitions.proofs.Combinations.{missed, found, finds}
use Rattle.transitions.proofs.Computed.{tell_number, add_fact, within_stack, beyond_stack, narrowed_to, narrow_same, narrow_other, fired, fires_with, within_history, beyond_history, fire_leaves, fire_stays, removed, not_removed, keeps_history, records_is, is_records}

module _ (K : Kind) (law : Lawful K) (P : Program) (six : SixVariables P) where
  -- a rule that fires
  fires_is : (s : State) → Sound s → (A : List Entry) (f : Stored) (j r h : ℕ) (θ : Bindings) (fs : List Stored) → Occurs P f j r h → Fires K s r (rule_at P r) h f.identifier θ fs →
      step_active K P s A f j (occurrence_at (occurrences P f.fact.predicate) j) ≡ step_fire s A f j r (rule_at P r) (record { identifiers = identifiers fs; bindings = θ })
  fires_is s sound A f j r h θ fs o F =
      ap (step_active K P s A f j) o
      ∙ ap (step_try s A f j r (rule_at P r)) (finds K law s sound.rising r (rule_at P r) (six_below P six r) h f.identifier (head_within P f.fact.predicate j r h o) θ fs F)

  no_combination : (s : State) → Rising s.store → (r h act : ℕ) → h < length (rule_at P r).heads → ((θ : Bindings) (fs : List Stored) → Combines K s r (rule_at P r) h act θ fs → ⊥) → combination K s r (rule_at P r) h act ≡ None
  no_combination s rising r h act l N = at (combination K s r (rule_at P r) h act) refl
    where
      at : (o : Option Combination) → combination K s r (rule_at P r) h act ≡ o → o ≡ None
      at None e = refl
      at (Some c) e = let w = found K law s rising r (rule_at P r) (six_below P six r) h act l c e in absurd (N c.bindings w.0 w.1.combines)

  -- some member satisfies: a content is left
  some_left : (c : ℕ) (t : Telling) (z : ℤ) → SomeMember K c t z true → (d : ℕ) × (K.narrowed c t z ≡ Some d)
  some_left c t z y = at (K.narrowed c t z) refl
    where
      at : (o : Option ℕ) → K.narrowed c t z ≡ o → (d : ℕ) × (o ≡ Some d)
      at None e = absurd (true≢false (sym y.2 ∙ left_none K law c t z e y.0 y.1))
      at (Some d) e = (d, refl)

  -- the history is full, whether the active entry leaves or stays
  over : (s : State) (A : List Entry) (f : Stored) (j r : ℕ) (x : Rule) (c : Combination) (U : List Firing) → recorded s.history r x c.identifiers ≡ U → 256 < length U → step_fire s A f j r x c ≡ ends s (broken history_full)
  over s A f j r x c U e l =
      let rest : List Entry = elim (among f.identifier (drop x.kept c.identifiers)) [ true ↦ A | false ↦ active f j ∷ A ] in
      ap (fires_with s rest r x c) e ∙ beyond_history s rest r x c U l

  -- each transition is the step
  only : {s : State} {o : Outcome} → Transition K P s o → Sound s → o ≡ step K P s
  only (move.solve_number {A = A} {S = S} {B = B} {T = T} {n = n} m t z e) q = sym (tell_number K (state (to_tell (number m) t z ∷ A) S B T n) A m t z true e)
  only (move.solve_known {A = A} {S = S} {B = B} {T = T} {n = n} k t z w f) q =
      let s : State = state (to_tell (cell k) t z ∷ A) S B T n in
      sym (ap (step_narrow s A k) (all_left K law (get_or B k 0) t z w f) ∙ narrow_same s A k (let l = q.entries in omega arith))
  only (move.solve_narrowed {A = A} {W = W} {S = S} {B = B} {T = T} {n = n} k d t z l w v m) q =
      let s : State = state (to_tell (cell k) t z ∷ A) S B T n in
      let e : W ≡ woken_by k S = these_wake k S W v in
      sym (ap (step_narrow s A k) (left_is K law (get_or B k 0) t z d l) ∙ narrow_other s A k d (loses K law (get_or B k 0) t z d l w)
      ∙ ap (λ (V : List Entry). goes_within s (narrowed_to s A k d V)) (sym e) ∙ within_stack s (narrowed_to s A k d W) m)
  only (move.activate {A = A} {S = S} {B = B} {T = T} {n = n} c l) q = sym (add_fact (state (to_add c ∷ A) S B T n) A c true (lt-ltb (length S) 128 l))
  only (move.reactivate {A = A} {S = S} {B = B} {T = T} {n = n} f) q = refl
  only (move.dropped {A = A} {S = S} {B = B} {T = T} {n = n} f j e) q = sym (ap (step_active K P (state (active f j ∷ A) S B T n) A f j) e)
  only (move.simplify {A = A} {S = S} {B = B} {T = T} {n = n} f j r h θ fs o F l) q =
      let s : State = state (active f j ∷ A) S B T n in
      let x : Rule = rule_at P r in
      let c : Combination = record { identifiers = identifiers fs; bindings = θ } in
      let k : h < length x.heads = head_within P f.fact.predicate j r h o in
      sym (fires_is s q A f j r h θ fs o F ∙ fire_leaves s A f j r x c (removed F.combines l)
      ∙ ap (fires_with s A r x c) (keeps_history T r x (identifiers fs) (omega arith)) ∙ within_history s A r x c T q.firings ∙ within_stack s (fired s A r x c T) q.entries)
  only (move.propagate {A = A} {S = S} {B = B} {T = T} {U = U} {n = n} f j r h θ fs o F l R u m) q =
      let s : State = state (active f j ∷ A) S B T n in
      let x : Rule = rule_at P r in
      let c : Combination = record { identifiers = identifiers fs; bindings = θ } in
      sym (fires_is s q A f j r h θ fs o F ∙ fire_stays s A f j r x c (not_removed F.combines l)
      ∙ ap (fires_with s (active f j ∷ A) r x c) (records_is r x fs T U R) ∙ within_history s (active f j ∷ A) r x c U u ∙ within_stack s (fired s (active f j ∷ A) r x c U) m)
  only (move.default {A = A} {S = S} {B = B} {T = T} {n = n} f j r h o N) q =
      let s : State = state (active f j ∷ A) S B T n in
      sym (ap (step_active K P s A f j) o ∙ ap (step_try s A f j r (rule_at P r)) (no_combination s q.rising r h f.identifier (head_within P f.fact.predicate j r h o) N))
  only (move.split {A = A} {S = S} {B = B} {T = T} {n = n} r θ) q = refl
  only (move.replaced {A = A} {E = E} {S = S} {B = B} {T = T} {n = n} r i θ e m) q =
      let s : State = state (alternative r i θ ∷ A) S B T n in
      sym (ap (step_replace s A) (entries_give θ (alternative_at (rule_at P r) i).items E e) ∙ within_stack s (with_stack s (E ++ A)) m)
  only move.fails q = refl
  only (move.fails_number {A = A} {S = S} {B = B} {T = T} {n = n} m t z e) q = sym (tell_number K (state (to_tell (number m) t z ∷ A) S B T n) A m t z false e)
  only (move.fails_cell {A = A} {S = S} {B = B} {T = T} {n = n} k t z f) q =
      let s : State = state (to_tell (cell k) t z ∷ A) S B T n in
      sym (ap (step_narrow s A k) (none_left K law (get_or B k 0) t z f))
  only (move.breaks_item {A = A} {S = S} {B = B} {T = T} {n = n} r i θ e b) q =
      let s : State = state (alternative r i θ ∷ A) S B T n in
      sym (ap (step_replace s A) (entries_break θ (alternative_at (rule_at P r) i).items e b))
  only (move.breaks_store {A = A} {S = S} {B = B} {T = T} {n = n} c l) q = sym (add_fact (state (to_add c ∷ A) S B T n) A c false (le-ltb (length S) 128 l))
  only (move.breaks_waking {A = A} {W = W} {S = S} {B = B} {T = T} {n = n} k t z y w v m) q =
      let s : State = state (to_tell (cell k) t z ∷ A) S B T n in
      let d = some_left (get_or B k 0) t z y in
      let l = leaves K law (get_or B k 0) t z d.0 d.1 in
      sym (ap (step_narrow s A k) d.1 ∙ narrow_other s A k d.0 (loses K law (get_or B k 0) t z d.0 l w)
      ∙ ap (λ (V : List Entry). goes_within s (narrowed_to s A k d.0 V)) (sym (these_wake k S W v)) ∙ beyond_stack s (narrowed_to s A k d.0 W) m)
  only (move.breaks_body {A = A} {S = S} {B = B} {T = T} {U = U} {n = n} f j r h θ fs o F l R u m) q =
      let s : State = state (active f j ∷ A) S B T n in
      let x : Rule = rule_at P r in
      let c : Combination = record { identifiers = identifiers fs; bindings = θ } in
      sym (fires_is s q A f j r h θ fs o F ∙ fire_stays s A f j r x c (not_removed F.combines l)
      ∙ ap (fires_with s (active f j ∷ A) r x c) (records_is r x fs T U R) ∙ within_history s (active f j ∷ A) r x c U u ∙ beyond_stack s (fired s (active f j ∷ A) r x c U) m)
  only (move.breaks_items {A = A} {E = E} {S = S} {B = B} {T = T} {n = n} r i θ e m) q =
      let s : State = state (alternative r i θ ∷ A) S B T n in
      sym (ap (step_replace s A) (entries_give θ (alternative_at (rule_at P r) i).items E e) ∙ beyond_stack s (with_stack s (E ++ A)) m)
  only (move.breaks_history {A = A} {S = S} {B = B} {T = T} {U = U} {n = n} f j r h θ fs o F R u) q =
      let s : State = state (active f j ∷ A) S B T n in
      let x : Rule = rule_at P r in
      let c : Combination = record { identifiers = identifiers fs; bindings = θ } in
      sym (fires_is s q A f j r h θ fs o F ∙ over s A f j r x c U (records_is r x fs T U R) u)

  -- the step is a transition
  makes : (A : List Entry) (S : List Stored) (B : List ℕ) (T : List Firing) (n : ℕ) → Sound (state A S B T n) → (A ≡ [] → ⊥) → Transition K P (state A S B T n) (step K P (state A S B T n))
  makes [] S B T n q f = absurd (f refl)
  makes (e ∷ A) S B T n q f = top e q
    where
      this : {s : State} {o : Outcome} → Transition K P s o → Sound s → Transition K P s (step K P s)
      this {s} t q = subst (Transition K P s) (only t q) t

      adds : (c : Fact) → Sound (state (to_add c ∷ A) S B T n) → (length S < 128) ⊎ (128 ≤ length S) → Transition K P (state (to_add c ∷ A) S B T n) (step K P (state (to_add c ∷ A) S B T n))
      adds c q (inl l) = this (move.activate c l) q
      adds c q (inr l) = this (move.breaks_store c l) q

      tells : (m : ℤ) (t : Telling) (z : ℤ) → Sound (state (to_tell (number m) t z ∷ A) S B T n) → (meets t m z ≡ true) ⊎ (meets t m z ≡ false) → Transition K P (state (to_tell (number m) t z ∷ A) S B T n) (step K P (state (to_tell (number m) t z ∷ A) S B T n))
      tells m t z q (inl a) = this (move.solve_number m t z a) q
      tells m t z q (inr b) = this (move.fails_number m t z b) q

      narrows : (k : ℕ) (t : Telling) (z : ℤ) → Sound (state (to_tell (cell k) t z ∷ A) S B T n) → (o : Option ℕ) → K.narrowed (get_or B k 0) t z ≡ o → Transition K P (state (to_tell (cell k) t z ∷ A) S B T n) (step K P (state (to_tell (cell k) t z ∷ A) S B T n))
      narrows k t z q None e = this (move.fails_cell k t z (left_none K law (get_or B k 0) t z e)) q
      narrows k t z q (Some d) e = by (cases_eq d (get_or B k 0)) (cases_lt 128 (length (woken_by k S ++ A)))
        where
          by : (d ≡ get_or B k 0) ⊎ (d ≡ get_or B k 0 → ⊥) → (128 < length (woken_by k S ++ A)) ⊎ (length (woken_by k S ++ A) ≤ 128) → Transition K P (state (to_tell (cell k) t z ∷ A) S B T n) (step K P (state (to_tell (cell k) t z ∷ A) S B T n))
          by (inl p) l = let w = left_all K law (get_or B k 0) t z (e ∙ ap (λ (x : ℕ). Some x) p) in this (move.solve_known k t z w.0 w.1) q
          by (inr p) (inl l) = let y = leaves K law (get_or B k 0) t z d e in this (move.breaks_waking k t z (keeps_some K law (get_or B k 0) t z d y) (lost K law (get_or B k 0) t z d y p) (wakes_these k S) l) q
          by (inr p) (inr l) = let y = leaves K law (get_or B k 0) t z d e in this (move.solve_narrowed k d t z y (lost K law (get_or B k 0) t z d y p) (wakes_these k S) l) q

      fires : (f : Stored) (j r h : ℕ) (θ : Bindings) (fs : List Stored) → Sound (state (active f j ∷ A) S B T n) → Occurs P f j r h → Fires K (state (active f j ∷ A) S B T n) r (rule_at P r) h f.identifier θ fs →
          (h < (rule_at P r).kept) ⊎ ((rule_at P r).kept ≤ h) → (256 < length (recorded T r (rule_at P r) (identifiers fs))) ⊎ (length (recorded T r (rule_at P r) (identifiers fs)) ≤ 256) →
          (128 < length (body_entry r (rule_at P r).body θ ∷ active f j ∷ A)) ⊎ (length (body_entry r (rule_at P r).body θ ∷ active f j ∷ A) ≤ 128) → Transition K P (state (active f j ∷ A) S B T n) (step K P (state (active f j ∷ A) S B T n))
      fires f j r h θ fs q o F (inr l) u m = this (move.simplify f j r h θ fs o F l) q
      fires f j r h θ fs q o F (inl l) (inl u) m = this (move.breaks_history f j r h θ fs o F (is_records r (rule_at P r) fs T) u) q
      fires f j r h θ fs q o F (inl l) (inr u) (inl m) = this (move.breaks_body f j r h θ fs o F l (is_records r (rule_at P r) fs T) u m) q
      fires f j r h θ fs q o F (inl l) (inr u) (inr m) = this (move.propagate f j r h θ fs o F l (is_records r (rule_at P r) fs T) u m) q

      tries : (f : Stored) (j r h : ℕ) → Sound (state (active f j ∷ A) S B T n) → Occurs P f j r h → (c : Option Combination) → combination K (state (active f j ∷ A) S B T n) r (rule_at P r) h f.identifier ≡ c →
          Transition K P (state (active f j ∷ A) S B T n) (step K P (state (active f j ∷ A) S B T n))
      tries f j r h q o None e = this (move.default f j r h o (missed K law (state (active f j ∷ A) S B T n) q.rising r (rule_at P r) (six_below P six r) h f.identifier (head_within P f.fact.predicate j r h o) e)) q
      tries f j r h q o (Some c) e =
          let w = found K law (state (active f j ∷ A) S B T n) q.rising r (rule_at P r) (six_below P six r) h f.identifier (head_within P f.fact.predicate j r h o) c e in
          let fs : List Stored = w.0 in
          fires f j r h c.bindings fs q o w.1 (cases_lt h (rule_at P r).kept) (cases_lt 256 (length (recorded T r (rule_at P r) (identifiers fs)))) (cases_lt 128 (length (body_entry r (rule_at P r).body c.bindings ∷ active f j ∷ A)))

      meets_at : (f : Stored) (j : ℕ) → Sound (state (active f j ∷ A) S B T n) → (o : Option Occurrence) → occurrence_at (occurrences P f.fact.predicate) j ≡ o → Transition K P (state (active f j ∷ A) S B T n) (step K P (state (active f j ∷ A) S B T n))
      meets_at f j q None e = this (move.dropped f j e) q
      meets_at f j q (Some o) e = tries f j o.rule o.head q e (combination K (state (active f j ∷ A) S B T n) o.rule (rule_at P o.rule) o.head f.identifier) refl

      replaces : (r i : ℕ) (θ : Bindings) → Sound (state (alternative r i θ ∷ A) S B T n) → (x : Result (List Entry) Cause) → entries_of θ (alternative_at (rule_at P r) i).items ≡ x → Transition K P (state (alternative r i θ ∷ A) S B T n) (step K P (state (alternative r i θ ∷ A) S B T n))
      replaces r i θ q (Err c) e = this (move.breaks_item r i θ c (break_entries θ (alternative_at (rule_at P r) i).items c e)) q
      replaces r i θ q (Ok es) e = by (cases_lt 128 (length (es ++ A)))
        where
          by : (128 < length (es ++ A)) ⊎ (length (es ++ A) ≤ 128) → Transition K P (state (alternative r i θ ∷ A) S B T n) (step K P (state (alternative r i θ ∷ A) S B T n))
          by (inl l) = this (move.breaks_items r i θ (give_entries θ (alternative_at (rule_at P r) i).items es e) l) q
          by (inr l) = this (move.replaced r i θ (give_entries θ (alternative_at (rule_at P r) i).items es e) l) q

      top : (e : Entry) → Sound (state (e ∷ A) S B T n) → Transition K P (state (e ∷ A) S B T n) (step K P (state (e ∷ A) S B T n))
      top (to_add c) q = adds c q (cases_lt (length S) 128)
      top (to_tell (number m) t z) q = tells m t z q (cases_Bool (meets t m z))
      top (to_tell (cell k) t z) q = narrows k t z q (K.narrowed (get_or B k 0) t z) refl
      top to_fail q = this move.fails q
      top (woken f) q = this (move.reactivate f) q
      top (active f j) q = meets_at f j q (occurrence_at (occurrences P f.fact.predicate) j) refl
      top (alternative r i θ) q = replaces r i θ q (entries_of θ (alternative_at (rule_at P r) i).items) refl
      top (choosing r θ) q = this (move.split r θ) q

no_transition : {K : Kind} {P : Program} {s : State} {o : Outcome} → Transition K P s o → (s.stack ≡ [] → ⊥)
no_transition (move.solve_number m t z e) q = no_cons q
no_transition (move.solve_known k t z w f) q = no_cons q
no_transition (move.solve_narrowed k d t z l w v m) q = no_cons q
no_transition (move.activate c l) q = no_cons q
no_transition (move.reactivate f) q = no_cons q
no_transition (move.dropped f j e) q = no_cons q
no_transition (move.simplify f j r h θ fs o F l) q = no_cons q
no_transition (move.propagate f j r h θ fs o F l R u m) q = no_cons q
no_transition (move.default f j r h o N) q = no_cons q
no_transition (move.split r θ) q = no_cons q
no_transition (move.replaced r i θ e m) q = no_cons q
no_transition move.fails q = no_cons q
no_transition (move.fails_number m t z e) q = no_cons q
no_transition (move.fails_cell k t z f) q = no_cons q
no_transition (move.breaks_item r i θ e b) q = no_cons q
no_transition (move.breaks_store c l) q = no_cons q
no_transition (move.breaks_waking k t z y w v m) q = no_cons q
no_transition (move.breaks_body f j r h θ fs o F l R u m) q = no_cons q
no_transition (move.breaks_items r i θ e m) q = no_cons q
no_transition (move.breaks_history f j r h θ fs o F R u) q = no_cons q

pub one_transition : OneTransition
one_transition = record {
  one = λ K P s o law six q f. (λ t. only K law P six t q, λ e. subst (Transition K P s) (sym e) (makes K law P six s.stack s.store s.cells s.history s.next q f));
  none = λ K P s o e t. no_transition t e;
}
