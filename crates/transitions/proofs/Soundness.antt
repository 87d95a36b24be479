-- Steps and choices keep soundness. Assumes nothing.
use Rattle.std.proofs.Common.{◌≡◌, ℕ, suc, ◌+◌, ◌<◌, ◌≤◌, Bool, true, false, eqb, ltb, List, [], ◌∷◌, ◌++◌, length, get_or, drop, ℤ, Some, None, Ok, Err, Option, Result, sym, refl, ap, ◌∙◌, subst, arith, length-append}
use Rattle.std.proofs.lemmas.Bool.{ltb-true, ltb-false}
use Rattle.cells.specs.declared.relations.Telling.{Telling}
use Rattle.cells.specs.Relations.{meets}
use Rattle.tree.specs.Walks.{Path, Standing, branch, choice, leaf, Walks, opened, onward, taken}
use Rattle.steps.specs.Program.{Program, Item, Rule, Occurrence, rule_at, alternative_at, occurrences}
use Rattle.steps.specs.State.{Kind, Value, number, cell, Fact, Stored, Entry, to_add, to_tell, to_fail, woken, active, alternative, choosing, Firing, State, Cause, End, answer, failed, broken, store_full, stack_full, history_full}
use Rattle.steps.specs.Matching.{unbound, among, Combination, combination}
use Rattle.steps.specs.Step.{Outcome, ends, goes, goes_within, stands, with_stack, woken_by, without, recorded, entries_of, occurrence_at, step_add, step_fire, step_tell, step_narrow, step_try, step_active, step_replace, step_entry, step}
use Rattle.steps.specs.Walk.{goal_entries, start_of, chosen, picked, machine}
use Rattle.steps.specs.Relations.{Every, every_none, every_more}
use Rattle.transitions.specs.Sound.{Rising, Sound}
use Rattle.transitions.specs.Soundness.{Choosing, Soundness}
use Rattle.transitions.proofs.Basics.{no_cons, each_long}
use Rattle.transitions.proofs.Bodies.{give_entries}
use Rattle.transitions.proofs.Computed.{added, narrowed_to, fired}

-- lists of facts
every_weaker : {X : Type 0} {Q R : X → Type 0} {xs : List X} → ((x : X) → Q x → R x) → Every Q xs → Every R xs
every_weaker f every_none = every_none
every_weaker f (every_more q qs) = every_more (f _ q) (every_weaker f qs)

pub every_push : {X : Type 0} {Q : X → Type 0} {xs : List X} {x : X} → Every Q xs → Q x → Every Q (xs ++ (x ∷ []))
every_push every_none q = every_more q every_none
every_push (every_more p ps) q = every_more p (every_push ps q)

rising_push : (S : List Stored) (a : Stored) → Rising S → Every (λ f. f.identifier < a.identifier) S → Rising (S ++ (a ∷ []))
rising_push [] a r e = (every_none, tt)
rising_push (f ∷ S) a r (every_more l e) = (every_push r.0 l, rising_push S a r.1 e)

pub every_without : {Q : Stored → Type 0} (is : List ℕ) (S : List Stored) → Every Q S → Every Q (without is S)
every_without is [] e = e
every_without {Q} is (f ∷ S) (every_more q e) = at (among f.identifier is) (every_without is S e)
  where
    at : (b : Bool) → Every Q (without is S) → Every Q (elim b [ true ↦ without is S | false ↦ f ∷ without is S ])
    at true w = w
    at false w = every_more q w

rising_without : (is : List ℕ) (S : List Stored) → Rising S → Rising (without is S)
rising_without is [] r = r
rising_without is (f ∷ S) r = at (among f.identifier is) (rising_without is S r.1)
  where
    at : (b : Bool) → Rising (without is S) → Rising (elim b [ true ↦ without is S | false ↦ f ∷ without is S ])
    at true w = w
    at false w = (every_without is S r.0, w)

pub shorter_without : (is : List ℕ) (S : List Stored) → length (without is S) ≤ length S
shorter_without is [] = omega arith
shorter_without is (f ∷ S) = at (among f.identifier is) (shorter_without is S)
  where
    at : (b : Bool) → length (without is S) ≤ length S → length {A = Stored} (elim b [ true ↦ without is S | false ↦ f ∷ without is S ]) ≤ suc (length S)
    at true l = omega arith
    at false l = omega arith

-- a step that may break by the stack
within_sound : (s t : State) → Sound s → (length t.stack ≤ 128 → Sound t) → Sound (goes_within s t).0
within_sound s t q f = at (ltb 128 (length t.stack)) refl
  where
    at : (b : Bool) → ltb 128 (length t.stack) ≡ b → Sound (elim b as (λ z. Outcome) [ true ↦ ends s (broken stack_full) | false ↦ goes t ]).0
    at true e = q
    at false e = f (ltb-false 128 (length t.stack) e)

-- another stack, no longer than 128
restacked : (s : State) (A : List Entry) → Sound s → length A ≤ 128 → Sound (with_stack s A)
restacked s A q l = record { entries = l; facts = q.facts; firings = q.firings; rising = q.rising; below = q.below }

module _ (s : State) (q : Sound s) (A : List Entry) (room : suc (length A) ≤ 128) where
  adds_sound : (c : Fact) → Sound (step_add s A c).0
  adds_sound c = at (ltb (length s.store) 128) refl
    where
      a : Stored
      a = record { identifier = s.next; fact = c }

      at : (b : Bool) → ltb (length s.store) 128 ≡ b → Sound (elim b as (λ z. Outcome) [ true ↦ goes (added s A c) | false ↦ ends s (broken store_full) ]).0
      at true e =
          let l = ltb-true (length s.store) 128 e in
          let m : length (s.store ++ (a ∷ [])) ≡ length s.store + 1 = length-append s.store (a ∷ []) in
          record { entries = room; facts = omega arith; firings = q.firings; rising = rising_push s.store a q.rising q.below; below = every_push (every_weaker (λ f h. omega arith) q.below) (omega arith) }
      at false e = q

  narrows_sound : (k : ℕ) (o : Option ℕ) → Sound (step_narrow s A k o).0
  narrows_sound k None = q
  narrows_sound k (Some d) = within_sound s _ q (λ l. record { entries = l; facts = q.facts; firings = q.firings; rising = q.rising; below = q.below })

  tells_sound : (K : Kind) (v : Value) (t : Telling) (z : ℤ) → Sound (step_tell K s A v t z).0
  tells_sound K (number m) t z = at (meets t m z)
    where
      at : (b : Bool) → Sound (elim b as (λ y. Outcome) [ true ↦ goes (with_stack s A) | false ↦ ends s failed ]).0
      at true = restacked s A q (omega arith)
      at false = q
  tells_sound K (cell k) t z = narrows_sound k (K.narrowed (get_or s.cells k 0) t z)

  fires_sound : (f : Stored) (j r : ℕ) (x : Rule) (c : Combination) → Sound (step_fire s A f j r x c).0
  fires_sound f j r x c = at (ltb 256 (length (recorded s.history r x c.identifiers))) refl
    where
      gone : List ℕ
      gone = drop x.kept c.identifiers

      rest : List Entry
      rest = elim (among f.identifier gone) [ true ↦ A | false ↦ active f j ∷ A ]

      U : List Firing
      U = recorded s.history r x c.identifiers

      at : (b : Bool) → ltb 256 (length U) ≡ b → Sound (elim b as (λ z. Outcome) [ true ↦ ends s (broken history_full) | false ↦ goes_within s (fired s rest r x c U) ]).0
      at true e = q
      at false e = within_sound s (fired s rest r x c U) q (λ l. record {
        entries = l;
        facts = let n = shorter_without gone s.store in let m = q.facts in omega arith;
        firings = ltb-false 256 (length U) e;
        rising = rising_without gone s.store q.rising;
        below = every_without gone s.store q.below;
      })

  active_sound : (K : Kind) (P : Program) (f : Stored) (j : ℕ) (o : Option Occurrence) → Sound (step_active K P s A f j o).0
  active_sound K P f j None = restacked s A q (omega arith)
  active_sound K P f j (Some o) = at (combination K s o.rule (rule_at P o.rule) o.head f.identifier)
    where
      at : (c : Option Combination) → Sound (step_try s A f j o.rule (rule_at P o.rule) c).0
      at None = restacked s (active f (suc j) ∷ A) q room
      at (Some c) = fires_sound f j o.rule (rule_at P o.rule) c

  replaces_sound : (x : Result (List Entry) Cause) → Sound (step_replace s A x).0
  replaces_sound (Err e) = q
  replaces_sound (Ok es) = within_sound s (with_stack s (es ++ A)) q (λ l. restacked s (es ++ A) q l)

  entry_sound : (K : Kind) (P : Program) (e : Entry) → Sound (step_entry K P s A e).0
  entry_sound K P (to_add c) = adds_sound c
  entry_sound K P (to_tell v t z) = tells_sound K v t z
  entry_sound K P to_fail = q
  entry_sound K P (woken f) = restacked s (active f 1 ∷ A) q room
  entry_sound K P (active f j) = active_sound K P f j (occurrence_at (occurrences P f.fact.predicate) j)
  entry_sound K P (alternative r i θ) = replaces_sound (entries_of θ (alternative_at (rule_at P r) i).items)
  entry_sound K P (choosing r θ) = q

step_sound : (K : Kind) (P : Program) (s : State) → Sound s → Sound (step K P s).0
step_sound K P s q = at s.stack refl
  where
    at : (A : List Entry) → s.stack ≡ A → Sound (elim A as (λ z. Outcome) [ [] ↦ ends s answer | ◌∷◌ e below ↦ step_entry K P s below e ]).0
    at [] e = q
    at (x ∷ A) e = entry_sound s q A (let l = q.entries in let m : length s.stack ≡ suc (length A) = ap length e in omega arith) K P x

start_sound : (K : Kind) (goal : List Item) → length goal ≤ 16 → Sound (start_of K goal)
start_sound K goal l = at (entries_of unbound goal) refl
  where
    at : (x : Result (List Entry) Cause) → entries_of unbound goal ≡ x → Sound (record { stack = goal_entries x; store = []; cells = (start_of K goal).cells; history = []; next = 1 })
    at (Err e) p = record { entries = omega arith; facts = omega arith; firings = omega arith; rising = tt; below = every_none }
    at (Ok es) p =
        let m = each_long (give_entries unbound goal es p) in
        record { entries = omega arith; facts = omega arith; firings = omega arith; rising = tt; below = every_none }

pick_sound : (s : State) (i : ℕ) → Sound s → Sound (picked s i)
pick_sound s i q = at s.stack refl
  where
    at : (A : List Entry) → s.stack ≡ A → Sound (elim A as (λ z. State) [ [] ↦ s | ◌∷◌ e below ↦ with_stack s (chosen e i ∷ below) ])
    at [] e = q
    at (x ∷ A) e = restacked s (chosen x i ∷ A) q (let l = q.entries in let m : length s.stack ≡ suc (length A) = ap length e in omega arith)

pub walk_sound : (K : Kind) (P : Program) (goal : List Item) → length goal ≤ 16 → {p : Path} {n : ℕ} {s : State} {st : Standing End} → Walks (machine K P goal) p n s st → Sound s
walk_sound K P goal l opened = start_sound K goal l
walk_sound K P goal l (onward {s = s} {t = t} {st = st} e w) = subst (λ (o : Outcome). Sound o.0) e (step_sound K P s (walk_sound K P goal l w))
walk_sound K P goal l (taken {s = s} i a b w) = pick_sound s i (walk_sound K P goal l w)

-- what stands on the stack where the walk is
abbrev pub Stacked : Program → State → Standing End → Type 0
Stacked P s branch = s.stack ≡ [] → ⊥
Stacked P s (choice m) = Choosing P s m
Stacked P s (leaf e) = Unit {0}

goes_stacked : (P : Program) (t : State) → Stacked P t (stands t.stack)
goes_stacked P t = at t.stack refl
  where
    at : (A : List Entry) → t.stack ≡ A → Stacked P t (stands A)
    at [] e = tt
    at (x ∷ A) e = λ n. no_cons (sym e ∙ n)

-- what an outcome says of its own state
abbrev Rests : Program → Outcome → Type 0
Rests P o = Stacked P o.0 o.1

within_stacked : (P : Program) (s t : State) → Rests P (goes_within s t)
within_stacked P s t = at (ltb 128 (length t.stack))
  where
    at : (b : Bool) → Rests P (elim b [ true ↦ ends s (broken stack_full) | false ↦ goes t ])
    at true = tt
    at false = goes_stacked P t

module _ (K : Kind) (P : Program) (s : State) (A : List Entry) where
  adds_stacked : (c : Fact) → Rests P (step_add s A c)
  adds_stacked c = at (ltb (length s.store) 128)
    where
      at : (b : Bool) → Rests P (elim b [ true ↦ goes (added s A c) | false ↦ ends s (broken store_full) ])
      at true = goes_stacked P (added s A c)
      at false = tt

  tells_stacked : (v : Value) (t : Telling) (z : ℤ) → Rests P (step_tell K s A v t z)
  tells_stacked (number m) t z = at (meets t m z)
    where
      at : (b : Bool) → Rests P (elim b [ true ↦ goes (with_stack s A) | false ↦ ends s failed ])
      at true = goes_stacked P (with_stack s A)
      at false = tt
  tells_stacked (cell k) t z = at (K.narrowed (get_or s.cells k 0) t z)
    where
      at : (o : Option ℕ) → Rests P (step_narrow s A k o)
      at None = tt
      at (Some d) = within_stacked P s (narrowed_to s A k d (elim (eqb d (get_or s.cells k 0)) [ true ↦ [] | false ↦ woken_by k s.store ]))

  fires_stacked : (f : Stored) (j r : ℕ) (x : Rule) (c : Combination) → Rests P (step_fire s A f j r x c)
  fires_stacked f j r x c = at (elim (among f.identifier (drop x.kept c.identifiers)) [ true ↦ A | false ↦ active f j ∷ A ]) (ltb 256 (length (recorded s.history r x c.identifiers)))
    where
      at : (rest : List Entry) (b : Bool) → Rests P (elim b [ true ↦ ends s (broken history_full) | false ↦ goes_within s (fired s rest r x c (recorded s.history r x c.identifiers)) ])
      at rest true = tt
      at rest false = within_stacked P s (fired s rest r x c (recorded s.history r x c.identifiers))

  active_stacked : (f : Stored) (j : ℕ) (o : Option Occurrence) → Rests P (step_active K P s A f j o)
  active_stacked f j None = goes_stacked P (with_stack s A)
  active_stacked f j (Some o) = at (combination K s o.rule (rule_at P o.rule) o.head f.identifier)
    where
      at : (c : Option Combination) → Rests P (step_try s A f j o.rule (rule_at P o.rule) c)
      at None = goes_stacked P (with_stack s (active f (suc j) ∷ A))
      at (Some c) = fires_stacked f j o.rule (rule_at P o.rule) c

  replaces_stacked : (x : Result (List Entry) Cause) → Rests P (step_replace s A x)
  replaces_stacked (Err e) = tt
  replaces_stacked (Ok es) = within_stacked P s (with_stack s (es ++ A))

  entry_stacked : (e : Entry) → s.stack ≡ e ∷ A → Rests P (step_entry K P s A e)
  entry_stacked (to_add c) q = adds_stacked c
  entry_stacked (to_tell v t z) q = tells_stacked v t z
  entry_stacked to_fail q = tt
  entry_stacked (woken f) q = goes_stacked P (with_stack s (active f 1 ∷ A))
  entry_stacked (active f j) q = active_stacked f j (occurrence_at (occurrences P f.fact.predicate) j)
  entry_stacked (alternative r i θ) q = replaces_stacked (entries_of θ (alternative_at (rule_at P r) i).items)
  entry_stacked (choosing r θ) q = record { rule = r; bindings = θ; below = A; top = q; many = refl }

step_stacked : (K : Kind) (P : Program) (s : State) → Rests P (step K P s)
step_stacked K P s = at s.stack refl
  where
    at : (A : List Entry) → s.stack ≡ A → Rests P (elim A [ [] ↦ ends s answer | ◌∷◌ e below ↦ step_entry K P s below e ])
    at [] e = tt
    at (x ∷ A) e = entry_stacked K P s A x e

-- an alternative in place of the choice
pub picked_is : (P : Program) (s : State) (m i : ℕ) (c : Choosing P s m) → picked s i ≡ with_stack s (alternative c.rule i c.bindings ∷ c.below)
picked_is P s m i c = ap (λ (A : List Entry). elim A as (λ z. State) [ [] ↦ s | ◌∷◌ e below ↦ with_stack s (chosen e i ∷ below) ]) c.top

pub walk_stacked : (K : Kind) (P : Program) (goal : List Item) {p : Path} {n : ℕ} {s : State} {st : Standing End} → Walks (machine K P goal) p n s st → Stacked P s st
walk_stacked K P goal opened = goes_stacked P (start_of K goal)
walk_stacked K P goal (onward {s = s} e w) = subst (Rests P) e (step_stacked K P s)
walk_stacked K P goal (taken {m = m} {s = s} i a b w) = at (walk_stacked K P goal w)
  where
    at : Choosing P s m → (picked s i).stack ≡ [] → ⊥
    at c n = no_cons (sym (ap (λ (z : State). z.stack) (picked_is P s m i c)) ∙ n)

pub soundness : Soundness
soundness = record {
  starts = start_sound;
  steps = step_sound;
  picks = pick_sound;
  walks = λ K P goal p n s st l w. walk_sound K P goal l w;
  on_branch = λ K P goal p n s w. walk_stacked K P goal w;
  at_choice = λ K P goal p n m s w. walk_stacked K P goal w;
}
