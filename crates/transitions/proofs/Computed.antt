-- Parts of the computed step, each under the fact that decides it. Assumes nothing.
use Rattle.std.proofs.Common.{◌≡◌, ℕ, zero, suc, ◌<◌, ◌≤◌, Bool, true, false, eqb, ltb, ◌⊎◌, List, [], ◌∷◌, ◌++◌, length, get_or, drop, set, ℤ, Some, sym, refl, ap, ◌∙◌, subst, inl, inr, arith}
use lib.ListN.{length-map}
use Rattle.std.proofs.lemmas.Bool.{eq-eqb, ne_eqb, lt-ltb, le-ltb, ltb-true, ltb-false, cases_Bool}
use Rattle.std.proofs.lemmas.List.{set-get_or}
use Rattle.cells.specs.declared.relations.Telling.{Telling}
use Rattle.cells.specs.Relations.{meets}
use Rattle.steps.specs.Program.{Rule}
use Rattle.steps.specs.State.{Kind, number, Fact, Stored, Bindings, Entry, active, Firing, State, failed, broken, store_full, stack_full, history_full}
use Rattle.steps.specs.Matching.{among, removes, Combination}
use Rattle.steps.specs.Step.{Outcome, ends, goes, goes_within, with_stack, step_add, step_tell, woken_by, step_narrow, without, body_entry, recorded, step_fire}
use Rattle.steps.specs.Relations.{In, here, there, identifiers, Distinct, distinct_more, Combines}
use Rattle.steps.specs.Transitions.{Records, unrecorded}
use Rattle.steps.specs.Transitions as transition
use Rattle.transitions.proofs.Basics.{among_in, in_among}

-- the limit of the stack
pub within_stack : (s t : State) → length t.stack ≤ 128 → goes_within s t ≡ goes t
within_stack s t l = at (ltb 128 (length t.stack)) (le-ltb 128 (length t.stack) l)
  where
    at : (b : Bool) → b ≡ false → ◌≡◌ {A = Outcome} (elim b [ true ↦ ends s (broken stack_full) | false ↦ goes t ]) (goes t)
    at b e = rw e

pub beyond_stack : (s t : State) → 128 < length t.stack → goes_within s t ≡ ends s (broken stack_full)
beyond_stack s t l = at (ltb 128 (length t.stack)) (lt-ltb 128 (length t.stack) l)
  where
    at : (b : Bool) → b ≡ true → ◌≡◌ {A = Outcome} (elim b [ true ↦ ends s (broken stack_full) | false ↦ goes t ]) (ends s (broken stack_full))
    at b e = rw e

-- a comparison told of a number
pub tell_number : (K : Kind) (s : State) (A : List Entry) (m : ℤ) (t : Telling) (z : ℤ) (b : Bool) → meets t m z ≡ b → step_tell K s A (number m) t z ≡ (elim b as (λ y. Outcome) [ true ↦ goes (with_stack s A) | false ↦ ends s failed ])
tell_number K s A m t z b e = ap (λ (c : Bool). elim c as (λ y. Outcome) [ true ↦ goes (with_stack s A) | false ↦ ends s failed ]) e

-- a fact added
abbrev pub added : State → List Entry → Fact → State
added s A c =
    let a : Stored = record { identifier = s.next; fact = c } in
    record { stack = active a 1 ∷ A; store = s.store ++ (a ∷ []); cells = s.cells; history = s.history; next = suc s.next }

pub add_fact : (s : State) (A : List Entry) (c : Fact) (b : Bool) → ltb (length s.store) 128 ≡ b → step_add s A c ≡ (elim b as (λ y. Outcome) [ true ↦ goes (added s A c) | false ↦ ends s (broken store_full) ])
add_fact s A c b e = ap (λ (d : Bool). elim d as (λ y. Outcome) [ true ↦ goes (added s A c) | false ↦ ends s (broken store_full) ]) e

-- narrowing to the same content, and to another
abbrev pub narrowed_to : State → List Entry → ℕ → ℕ → List Entry → State
narrowed_to s A k d W = record { stack = W ++ A; store = s.store; cells = set s.cells k d; history = s.history; next = s.next }

pub narrow_same : (s : State) (A : List Entry) (k : ℕ) → length A ≤ 128 → step_narrow s A k (Some (get_or s.cells k 0)) ≡ goes (with_stack s A)
narrow_same s A k l =
    at (eqb (get_or s.cells k 0) (get_or s.cells k 0)) (eq-eqb (get_or s.cells k 0) (get_or s.cells k 0) refl)
    ∙ within_stack s (narrowed_to s A k (get_or s.cells k 0) []) l
    ∙ ap (λ (B : List ℕ). goes (record { stack = A; store = s.store; cells = B; history = s.history; next = s.next })) (set-get_or s.cells k 0)
  where
    at : (b : Bool) → b ≡ true → goes_within s (narrowed_to s A k (get_or s.cells k 0) (elim b [ true ↦ [] | false ↦ woken_by k s.store ])) ≡ goes_within s (narrowed_to s A k (get_or s.cells k 0) [])
    at b e = ap (λ (c : Bool). goes_within s (narrowed_to s A k (get_or s.cells k 0) (elim c [ true ↦ [] | false ↦ woken_by k s.store ]))) e

pub narrow_other : (s : State) (A : List Entry) (k d : ℕ) → (d ≡ get_or s.cells k 0 → ⊥) → step_narrow s A k (Some d) ≡ goes_within s (narrowed_to s A k d (woken_by k s.store))
narrow_other s A k d n = ap (λ (c : Bool). goes_within s (narrowed_to s A k d (elim c [ true ↦ [] | false ↦ woken_by k s.store ]))) (ne_eqb d (get_or s.cells k 0) n)

-- a rule fires: what is left on the stack, and the history
abbrev pub fired : State → List Entry → ℕ → Rule → Combination → List Firing → State
fired s rest r x c U = record { stack = body_entry r x.body c.bindings ∷ rest; store = without (drop x.kept c.identifiers) s.store; cells = s.cells; history = U; next = s.next }

abbrev pub fires_with : State → List Entry → ℕ → Rule → Combination → List Firing → Outcome
fires_with s rest r x c U = elim (ltb 256 (length U)) [ true ↦ ends s (broken history_full) | false ↦ goes_within s (fired s rest r x c U) ]

pub within_history : (s : State) (rest : List Entry) (r : ℕ) (x : Rule) (c : Combination) (U : List Firing) → length U ≤ 256 → fires_with s rest r x c U ≡ goes_within s (fired s rest r x c U)
within_history s rest r x c U l = ap (λ (b : Bool). elim b as (λ z. Outcome) [ true ↦ ends s (broken history_full) | false ↦ goes_within s (fired s rest r x c U) ]) (le-ltb 256 (length U) l)

pub beyond_history : (s : State) (rest : List Entry) (r : ℕ) (x : Rule) (c : Combination) (U : List Firing) → 256 < length U → fires_with s rest r x c U ≡ ends s (broken history_full)
beyond_history s rest r x c U l = ap (λ (b : Bool). elim b as (λ z. Outcome) [ true ↦ ends s (broken history_full) | false ↦ goes_within s (fired s rest r x c U) ]) (lt-ltb 256 (length U) l)

-- the active entry leaves, or stays
pub fire_leaves : (s : State) (A : List Entry) (f : Stored) (j r : ℕ) (x : Rule) (c : Combination) → In f.identifier (drop x.kept c.identifiers) →
    step_fire s A f j r x c ≡ fires_with s A r x c (recorded s.history r x c.identifiers)
fire_leaves s A f j r x c m =
    ap (λ (b : Bool). fires_with s (elim b [ true ↦ A | false ↦ active f j ∷ A ]) r x c (recorded s.history r x c.identifiers)) (in_among f.identifier (drop x.kept c.identifiers) m)

pub fire_stays : (s : State) (A : List Entry) (f : Stored) (j r : ℕ) (x : Rule) (c : Combination) → (In f.identifier (drop x.kept c.identifiers) → ⊥) →
    step_fire s A f j r x c ≡ fires_with s (active f j ∷ A) r x c (recorded s.history r x c.identifiers)
fire_stays s A f j r x c n =
    ap (λ (b : Bool). fires_with s (elim b [ true ↦ A | false ↦ active f j ∷ A ]) r x c (recorded s.history r x c.identifiers)) (at (cases_Bool (among f.identifier (drop x.kept c.identifiers))))
  where
    at : (among f.identifier (drop x.kept c.identifiers) ≡ true) ⊎ (among f.identifier (drop x.kept c.identifiers) ≡ false) → among f.identifier (drop x.kept c.identifiers) ≡ false
    at (inl a) = absurd (n (among_in f.identifier (drop x.kept c.identifiers) a))
    at (inr b) = b

-- the active fact is among the removed exactly if its head is
in_drop : (is : List ℕ) (k h : ℕ) → k ≤ h → h < length is → In (get_or is h 0) (drop k is)
in_drop [] k h l m = absurd (omega arith)
in_drop (i ∷ is) zero zero l m = here
in_drop (i ∷ is) zero (suc h) l m = there (in_drop is zero h (omega arith) (omega arith))
in_drop (i ∷ is) (suc k) zero l m = absurd (omega arith)
in_drop (i ∷ is) (suc k) (suc h) l m = in_drop is k h (omega arith) (omega arith)

from_drop : (is : List ℕ) (k i : ℕ) → In i (drop k is) → In i is
from_drop [] zero i m = m
from_drop [] (suc k) i m = m
from_drop (j ∷ is) zero i m = m
from_drop (j ∷ is) (suc k) i m = there (from_drop is k i m)

not_in_drop : (is : List ℕ) (k h : ℕ) → Distinct is → h < k → h < length is → In (get_or is h 0) (drop k is) → ⊥
not_in_drop is zero h d l n m = absurd (omega arith)
not_in_drop [] (suc k) h d l n m = absurd (omega arith)
not_in_drop (i ∷ is) (suc k) zero (distinct_more x d) l n m = x (from_drop is k i m)
not_in_drop (i ∷ is) (suc k) (suc h) (distinct_more x d) l n m = not_in_drop is k h d (omega arith) (omega arith) m

module _ {K : Kind} {s : State} {r : ℕ} {x : Rule} {place act : ℕ} {θ : Bindings} {fs : List Stored} (c : Combines K s r x place act θ fs) where
  pub removed : x.kept ≤ place → In act (drop x.kept (identifiers fs))
  removed l =
      let n : length (identifiers fs) ≡ length fs = length-map fs (λ f. f.identifier) in
      let m = c.fixed.0 in
      subst (λ (i : ℕ). In i (drop x.kept (identifiers fs))) c.fixed.1 (in_drop (identifiers fs) x.kept place l (omega arith))

  pub not_removed : place < x.kept → In act (drop x.kept (identifiers fs)) → ⊥
  not_removed l i =
      let n : length (identifiers fs) ≡ length fs = length-map fs (λ f. f.identifier) in
      let m = c.fixed.0 in
      not_in_drop (identifiers fs) x.kept place c.distinct l (omega arith) (subst (λ (j : ℕ). In j (drop x.kept (identifiers fs))) (sym c.fixed.1) i)

-- the history
pub keeps_history : (T : List Firing) (r : ℕ) (x : Rule) (is : List ℕ) → x.kept < length x.heads → recorded T r x is ≡ T
keeps_history T r x is l = ap (λ (b : Bool). elim b as (λ z. List Firing) [ true ↦ T | false ↦ T ++ (record { rule = r; identifiers = is } ∷ []) ]) (lt-ltb x.kept (length x.heads) l)

pub adds_history : (T : List Firing) (r : ℕ) (x : Rule) (is : List ℕ) → length x.heads ≤ x.kept → recorded T r x is ≡ T ++ (record { rule = r; identifiers = is } ∷ [])
adds_history T r x is l = ap (λ (b : Bool). elim b as (λ z. List Firing) [ true ↦ T | false ↦ T ++ (record { rule = r; identifiers = is } ∷ []) ]) (le-ltb x.kept (length x.heads) l)

pub records_is : (r : ℕ) (x : Rule) (fs : List Stored) (T U : List Firing) → Records r x fs T U → recorded T r x (identifiers fs) ≡ U
records_is r x fs T U (transition.recorded l) = adds_history T r x (identifiers fs) l
records_is r x fs T U (unrecorded l) = keeps_history T r x (identifiers fs) l

pub is_records : (r : ℕ) (x : Rule) (fs : List Stored) (T : List Firing) → Records r x fs T (recorded T r x (identifiers fs))
is_records r x fs T = at (cases_Bool (removes x))
  where
    at : (removes x ≡ true) ⊎ (removes x ≡ false) → Records r x fs T (recorded T r x (identifiers fs))
    at (inl a) = let l = ltb-true x.kept (length x.heads) a in subst (Records r x fs T) (sym (keeps_history T r x (identifiers fs) l)) (unrecorded l)
    at (inr b) = let l = ltb-false x.kept (length x.heads) b in subst (Records r x fs T) (sym (adds_history T r x (identifiers fs) l)) (transition.recorded l)
