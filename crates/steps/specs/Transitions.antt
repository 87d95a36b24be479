-- The transitions of the machine: those of the refined semantics with disjunction, and what the limits add to them.
use Rattle.std.specs.Prelude.{◌≡◌, ℕ, suc, ◌<◌, ◌≤◌, true, false, List, [], ◌∷◌, ◌++◌, length, drop, ℤ, Some, None, slice_index, slice_set}
use Rattle.cells.specs.declared.relations.Telling.{Telling}
use Rattle.cells.specs.Relations.{meets}
use Rattle.cells.specs.Laws.{Leaves}
use Rattle.tree.specs.Walks.{choice}
use Rattle.steps.specs.Program.{Program, Rule, rule_at, alternative_at, occurrences}
use Rattle.steps.specs.State.{Kind, number, cell, Fact, Stored, Bindings, Entry, to_add, to_tell, to_fail, woken, active, alternative, choosing, Firing, State}
use Rattle.steps.specs.State.{Cause, store_full, stack_full, history_full, failed, broken}
use Rattle.steps.specs.Step.{Outcome, ends, goes, without, body_entry, occurrence_at}
use Rattle.steps.specs.Relations.{In, Each, Breaks, identifiers, Combines, Fires, BodyEntry, BadEntry}

-- the state ⟨A, S, B, T⟩ n: the stack, the store, the cells, the history and the next identifier
abbrev pub state : List Entry → List Stored → List ℕ → List Firing → ℕ → State
state A S B T n = record { stack = A; store = S; cells = B; history = T; next = n }

-- the stored facts that mention cell k, as woken entries in the order of the store
pub data Wakes (k : ℕ) : List Stored → List Entry → Type 0 where
  none : Wakes k [] []
  wakes : {f : Stored} {S : List Stored} {W : List Entry} → In (cell k) f.fact.arguments → Wakes k S W → Wakes k (f ∷ S) (woken f ∷ W)
  sleeps : {f : Stored} {S : List Stored} {W : List Entry} → (In (cell k) f.fact.arguments → ⊥) → Wakes k S W → Wakes k (f ∷ S) W

-- occurrence j of the fact's predicate is head h of rule r
abbrev pub Occurs : Program → Stored → ℕ → ℕ → ℕ → Type 0
Occurs P f j r h = occurrence_at (occurrences P f.fact.predicate) j ≡ Some (record { rule = r; head = h })

-- what the facts of the removed heads leave of the store
abbrev pub rest_of : Rule → List Stored → List Stored → List Stored
rest_of x fs S = without (drop x.kept (identifiers fs)) S

-- the history after rule x of number r fired with facts: a rule that removes nothing is recorded, another is not
pub data Records (r : ℕ) (x : Rule) (fs : List Stored) (T : List Firing) : List Firing → Type 0 where
  recorded : length x.heads ≤ x.kept → Records r x fs T (T ++ (record { rule = r; identifiers = identifiers fs } ∷ []))
  unrecorded : x.kept < length x.heads → Records r x fs T T

-- the transitions from states within the limits: at most 128 entries, 128 facts and 256 firings
pub data Transition (K : Kind) (P : Program) : State → Outcome → Type 0 where
  -- Solve: a comparison that holds of a number goes
  solve_number : {A : List Entry} {S : List Stored} {B : List ℕ} {T : List Firing} {n : ℕ} (m : ℤ) (t : Telling) (z : ℤ) →
      meets t m z ≡ true → Transition K P (state (to_tell (number m) t z ∷ A) S B T n) (goes (state A S B T n))
  -- Solve: a comparison that all members of a cell satisfy goes
  solve_known : {A : List Entry} {S : List Stored} {B : List ℕ} {T : List Firing} {n : ℕ} (k : ℕ) (t : Telling) (z : ℤ) →
      ((v : ℤ) × (K.member (slice_index B k) v ≡ true)) → ((v : ℤ) → K.member (slice_index B k) v ≡ true → meets t v z ≡ true) →
      Transition K P (state (to_tell (cell k) t z ∷ A) S B T n) (goes (state A S B T n))
  -- Solve: a cell that loses members, but not all, wakes the facts that mention it
  solve_narrowed : {A W : List Entry} {S : List Stored} {B : List ℕ} {T : List Firing} {n : ℕ} (k d : ℕ) (t : Telling) (z : ℤ) →
      Leaves K.content K.member (slice_index B k) t z (Some d) → ((v : ℤ) × (K.member (slice_index B k) v ≡ true) × (meets t v z ≡ false)) →
      Wakes k S W → length (W ++ A) ≤ 128 → Transition K P (state (to_tell (cell k) t z ∷ A) S B T n) (goes (state (W ++ A) S (slice_set B k d) T n))
  -- Activate: a fact enters the store under the next identifier, active at its first occurrence
  activate : {A : List Entry} {S : List Stored} {B : List ℕ} {T : List Firing} {n : ℕ} (c : Fact) → length S < 128 →
      Transition K P (state (to_add c ∷ A) S B T n) (goes (state (active (record { identifier = n; fact = c }) 1 ∷ A) (S ++ (record { identifier = n; fact = c } ∷ [])) B T (suc n)))
  -- Reactivate: a woken fact is active again at its first occurrence
  reactivate : {A : List Entry} {S : List Stored} {B : List ℕ} {T : List Firing} {n : ℕ} (f : Stored) →
      Transition K P (state (woken f ∷ A) S B T n) (goes (state (active f 1 ∷ A) S B T n))
  -- Drop: there is no such occurrence
  dropped : {A : List Entry} {S : List Stored} {B : List ℕ} {T : List Firing} {n : ℕ} (f : Stored) (j : ℕ) →
      occurrence_at (occurrences P f.fact.predicate) j ≡ None → Transition K P (state (active f j ∷ A) S B T n) (goes (state A S B T n))
  -- Simplify: a rule fires that removes the active fact
  simplify : {A : List Entry} {S : List Stored} {B : List ℕ} {T : List Firing} {n : ℕ} (f : Stored) (j r h : ℕ) (θ : Bindings) (fs : List Stored) →
      Occurs P f j r h → Fires K (state (active f j ∷ A) S B T n) r (rule_at P r) h f.identifier θ fs → (rule_at P r).kept ≤ h →
      Transition K P (state (active f j ∷ A) S B T n) (goes (state (body_entry r (rule_at P r).body θ ∷ A) (rest_of (rule_at P r) fs S) B T n))
  -- Propagate: a rule fires that keeps the active fact
  propagate : {A : List Entry} {S : List Stored} {B : List ℕ} {T U : List Firing} {n : ℕ} (f : Stored) (j r h : ℕ) (θ : Bindings) (fs : List Stored) →
      Occurs P f j r h → Fires K (state (active f j ∷ A) S B T n) r (rule_at P r) h f.identifier θ fs → h < (rule_at P r).kept →
      Records r (rule_at P r) fs T U → length U ≤ 256 → length (body_entry r (rule_at P r).body θ ∷ active f j ∷ A) ≤ 128 →
      Transition K P (state (active f j ∷ A) S B T n) (goes (state (body_entry r (rule_at P r).body θ ∷ active f j ∷ A) (rest_of (rule_at P r) fs S) B U n))
  -- Default: nothing fires at this occurrence
  default : {A : List Entry} {S : List Stored} {B : List ℕ} {T : List Firing} {n : ℕ} (f : Stored) (j r h : ℕ) → Occurs P f j r h →
      ((θ : Bindings) (fs : List Stored) → Combines K (state (active f j ∷ A) S B T n) r (rule_at P r) h f.identifier θ fs → ⊥) →
      Transition K P (state (active f j ∷ A) S B T n) (goes (state (active f (suc j) ∷ A) S B T n))
  -- Split: a choice alters nothing; each of its alternatives, taken in its place, begins a branch
  split : {A : List Entry} {S : List Stored} {B : List ℕ} {T : List Firing} {n : ℕ} (r : ℕ) (θ : Bindings) →
      Transition K P (state (choosing r θ ∷ A) S B T n) (state (choosing r θ ∷ A) S B T n, choice (length (rule_at P r).body))
  -- an alternative is replaced by its items
  replaced : {A E : List Entry} {S : List Stored} {B : List ℕ} {T : List Firing} {n : ℕ} (r i : ℕ) (θ : Bindings) →
      Each (BodyEntry θ) (alternative_at (rule_at P r) i).items E → length (E ++ A) ≤ 128 →
      Transition K P (state (alternative r i θ ∷ A) S B T n) (goes (state (E ++ A) S B T n))
  -- failing: by `fail`, by a comparison that does not hold of a number, and by one that no member of a cell satisfies
  fails : {A : List Entry} {S : List Stored} {B : List ℕ} {T : List Firing} {n : ℕ} → Transition K P (state (to_fail ∷ A) S B T n) (ends (state (to_fail ∷ A) S B T n) failed)
  fails_number : {A : List Entry} {S : List Stored} {B : List ℕ} {T : List Firing} {n : ℕ} (m : ℤ) (t : Telling) (z : ℤ) →
      meets t m z ≡ false → Transition K P (state (to_tell (number m) t z ∷ A) S B T n) (ends (state (to_tell (number m) t z ∷ A) S B T n) failed)
  fails_cell : {A : List Entry} {S : List Stored} {B : List ℕ} {T : List Firing} {n : ℕ} (k : ℕ) (t : Telling) (z : ℤ) →
      ((v : ℤ) → K.member (slice_index B k) v ≡ true → meets t v z ≡ false) →
      Transition K P (state (to_tell (cell k) t z ∷ A) S B T n) (ends (state (to_tell (cell k) t z ∷ A) S B T n) failed)
  -- causes 1 and 2: the first item that breaks, from left to right, before the stack is looked at
  breaks_item : {A : List Entry} {S : List Stored} {B : List ℕ} {T : List Firing} {n : ℕ} (r i : ℕ) (θ : Bindings) (e : Cause) →
      Breaks (BodyEntry θ) (BadEntry θ) (alternative_at (rule_at P r) i).items e →
      Transition K P (state (alternative r i θ ∷ A) S B T n) (ends (state (alternative r i θ ∷ A) S B T n) (broken e))
  -- cause 3: a 129th fact
  breaks_store : {A : List Entry} {S : List Stored} {B : List ℕ} {T : List Firing} {n : ℕ} (c : Fact) → 128 ≤ length S →
      Transition K P (state (to_add c ∷ A) S B T n) (ends (state (to_add c ∷ A) S B T n) (broken store_full))
  -- cause 4: a 129th entry, by woken facts, by a body, or by items
  breaks_waking : {A W : List Entry} {S : List Stored} {B : List ℕ} {T : List Firing} {n : ℕ} (k : ℕ) (t : Telling) (z : ℤ) →
      ((v : ℤ) × (K.member (slice_index B k) v ≡ true) × (meets t v z ≡ true)) → ((v : ℤ) × (K.member (slice_index B k) v ≡ true) × (meets t v z ≡ false)) →
      Wakes k S W → 128 < length (W ++ A) →
      Transition K P (state (to_tell (cell k) t z ∷ A) S B T n) (ends (state (to_tell (cell k) t z ∷ A) S B T n) (broken stack_full))
  breaks_body : {A : List Entry} {S : List Stored} {B : List ℕ} {T U : List Firing} {n : ℕ} (f : Stored) (j r h : ℕ) (θ : Bindings) (fs : List Stored) →
      Occurs P f j r h → Fires K (state (active f j ∷ A) S B T n) r (rule_at P r) h f.identifier θ fs → h < (rule_at P r).kept →
      Records r (rule_at P r) fs T U → length U ≤ 256 → 128 < length (body_entry r (rule_at P r).body θ ∷ active f j ∷ A) →
      Transition K P (state (active f j ∷ A) S B T n) (ends (state (active f j ∷ A) S B T n) (broken stack_full))
  breaks_items : {A E : List Entry} {S : List Stored} {B : List ℕ} {T : List Firing} {n : ℕ} (r i : ℕ) (θ : Bindings) →
      Each (BodyEntry θ) (alternative_at (rule_at P r) i).items E → 128 < length (E ++ A) →
      Transition K P (state (alternative r i θ ∷ A) S B T n) (ends (state (alternative r i θ ∷ A) S B T n) (broken stack_full))
  -- cause 5: a 257th firing, looked at before the stack
  breaks_history : {A : List Entry} {S : List Stored} {B : List ℕ} {T U : List Firing} {n : ℕ} (f : Stored) (j r h : ℕ) (θ : Bindings) (fs : List Stored) →
      Occurs P f j r h → Fires K (state (active f j ∷ A) S B T n) r (rule_at P r) h f.identifier θ fs → Records r (rule_at P r) fs T U → 256 < length U →
      Transition K P (state (active f j ∷ A) S B T n) (ends (state (active f j ∷ A) S B T n) (broken history_full))
