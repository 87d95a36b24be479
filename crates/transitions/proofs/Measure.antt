-- Quiet transitions lower the load. Assumes nothing.
use Rattle.std.proofs.Common.{◌≡◌, ℕ, zero, suc, pred, ◌+◌, ◌*◌, ◌<◌, ◌≤◌, Bool, true, false, eqb, ◌⊎◌, List, [], ◌∷◌, ◌++◌, length, get_or, drop, set, ℤ, Some, sym, refl, ap, ◌∙◌, subst, inl, inr, arith, length-append}
use Rattle.std.proofs.lemmas.Bool.{true≢false, and_parts, eqb-true}
use Rattle.std.proofs.lemmas.List.{get_or-set_same}
use Rattle.cells.specs.declared.relations.Telling.{Telling}
use Rattle.cells.specs.Relations.{meets}
use Rattle.cells.specs.Laws.{Leaves}
use Rattle.tree.specs.Walks.{Standing, branch, choice, leaf}
use Rattle.steps.specs.Program.{Program, Rule, Alternative, Item, Occurrence, rule_at, alternative_at, occurrences}
use Rattle.steps.specs.State.{Kind, Stored, Bindings, Entry, to_add, to_tell, to_fail, woken, active, alternative, choosing, Firing, State, End}
use Rattle.steps.specs.Matching.{among}
use Rattle.steps.specs.Step.{Outcome, without, occurrence_at}
use Rattle.steps.specs.Relations.{In, here, there, Each, each_none, each_more, identifiers, Combines, BodyEntry, tells}
use Rattle.steps.specs.Relations as relation
use Rattle.steps.specs.Transitions.{rest_of, Records, unrecorded, Transition}
use Rattle.steps.specs.Transitions as move
use Rattle.transitions.specs.Measure.{weight_of, load, TopKnown, Quiet, Quietly, rests, moves_on, Small, Measure}
use Rattle.transitions.specs.Sound.{Sound}
use Rattle.transitions.proofs.Basics.{no_some, every_in, each_long, in_among}
use Rattle.transitions.proofs.Occurrences.{head_within}
use Rattle.transitions.proofs.Soundness.{shorter_without}

pub load_append : (P : Program) (A B : List Entry) → load P (A ++ B) ≡ load P A + load P B
load_append P [] B = omega arith
load_append P (e ∷ A) B = let h = load_append P A B in omega arith

-- items weigh 1 each
items_load : (P : Program) {θ : Bindings} {is : List Item} {es : List Entry} → Each (BodyEntry θ) is es → load P es ≡ length is
items_load P each_none = refl
items_load P (each_more (relation.adds p vs a) es) = let h = items_load P es in omega arith
items_load P (each_more (tells c v n l r) es) = let h = items_load P es in omega arith
items_load P (each_more relation.fails es) = let h = items_load P es in omega arith

-- an occurrence's number is at most how many there are
pub number_within : (os : List Occurrence) (j : ℕ) (o : Occurrence) → occurrence_at os j ≡ Some o → (1 ≤ j) × (j ≤ length os)
number_within [] j o e = no_some e
number_within (x ∷ os) j o e = at (λ q. number_within os (pred j) o q) (eqb j 1) refl e
  where
    at : (occurrence_at os (pred j) ≡ Some o → (1 ≤ pred j) × (pred j ≤ length os)) → (b : Bool) → eqb j 1 ≡ b → elim b [ true ↦ Some x | false ↦ occurrence_at os (pred j) ] ≡ Some o → (1 ≤ j) × (j ≤ suc (length os))
    at f true q e = let p = eqb-true j 1 q in (omega arith, omega arith)
    at f false q e = let w = f e in let a = w.0 in let b = w.1 in (omega arith, omega arith)

-- a fact that leaves makes the store shorter
shrinks : (is : List ℕ) (S : List Stored) (f : Stored) → In f S → In f.identifier is → length (without is S) < length S
shrinks is [] f m i = elim m [ ]
shrinks is (f ∷ S) g here i = at (among f.identifier is) (in_among f.identifier is i)
  where
    at : (b : Bool) → b ≡ true → length {A = Stored} (elim b [ true ↦ without is S | false ↦ f ∷ without is S ]) < suc (length S)
    at true e = let l = shorter_without is S in omega arith
    at false e = absurd (true≢false (sym e))
shrinks is (k ∷ S) f (there m) i = at (among k.identifier is) (shrinks is S f m i)
  where
    at : (b : Bool) → length (without is S) < length S → length {A = Stored} (elim b [ true ↦ without is S | false ↦ k ∷ without is S ]) < suc (length S)
    at true l = omega arith
    at false l = omega arith

-- the fact of the last head is in the store, and leaves it if that head is removed
last_of : (fs : List Stored) (k : ℕ) → k < length fs → (f : Stored) × In f fs × In f.identifier (drop k (identifiers fs))
last_of [] k l = absurd (omega arith)
last_of (f ∷ fs) zero l = (f, here, here)
last_of (f ∷ fs) (suc k) l = let w = last_of fs k (omega arith) in (w.0, there w.1, w.2)

pub removes_some : {K : Kind} {s : State} {r : ℕ} {x : Rule} {place act : ℕ} {θ : Bindings} {fs : List Stored} → Combines K s r x place act θ fs → x.kept < length x.heads → length (rest_of x fs s.store) < length s.store
removes_some {s = s} {x = x} {fs = fs} c l =
    let n = each_long c.matches in
    let w = last_of fs x.kept (omega arith) in
    shrinks (drop x.kept (identifiers fs)) s.store w.0 (every_in c.present w.1) w.2

no_leaf : {X : Type 0} {e : End} → ◌≡◌ {A = Standing End} (leaf e) branch → X
no_leaf e = let z : ◌≡◌ {A = ℕ} 0 1 = cc in absurd (omega arith)

no_choice : {X : Type 0} {m : ℕ} → ◌≡◌ {A = Standing End} (choice m) branch → X
no_choice e = let z : ◌≡◌ {A = ℕ} 0 1 = cc in absurd (omega arith)

-- a cell that loses a member is altered
altered : (K : Kind) (B : List ℕ) (k d : ℕ) (t : Telling) (z : ℤ) → k < length B → Leaves K.content K.member (get_or B k 0) t z (Some d) →
    ((v : ℤ) × (K.member (get_or B k 0) v ≡ true) × (meets t v z ≡ false)) → set B k d ≡ B → ⊥
altered K B k d t z l h w e =
    let q : get_or B k 0 ≡ d = ap (λ (C : List ℕ). get_or C k 0) (sym e) ∙ get_or-set_same B k d 0 l in
    let m : K.member d w.0 ≡ true = subst (λ (c : ℕ). K.member c w.0 ≡ true) q w.1 in
    true≢false (sym (and_parts (K.member (get_or B k 0) w.0) (meets t w.0 z) (sym (h.1 w.0) ∙ m)).1 ∙ w.2)

-- a list with something added is another
no_push : {X : Type 0} (xs : List X) (x : X) → xs ++ (x ∷ []) ≡ xs → ⊥
no_push xs x e =
    let l : length (xs ++ (x ∷ [])) ≡ length xs + 1 = length-append xs (x ∷ []) in
    let m : length (xs ++ (x ∷ [])) ≡ length xs = ap length e in
    omega arith

-- a rule that fires alters the store or the history
fires_alter : {K : Kind} {s : State} {r : ℕ} {x : Rule} {place act : ℕ} {θ : Bindings} {fs : List Stored} {U : List Firing} → Combines K s r x place act θ fs → Records r x fs s.history U → rest_of x fs s.store ≡ s.store → U ≡ s.history → ⊥
fires_alter {s = s} c (move.recorded l) e h = no_push s.history _ h
fires_alter {s = s} {x = x} {fs = fs} c (unrecorded l) e h =
    let m = removes_some c l in
    let n : length (rest_of x fs s.store) ≡ length s.store = ap length e in
    omega arith

module _ (K : Kind) (P : Program) where
  low : {s : State} {o : Outcome} → Transition K P s o → TopKnown (length s.cells) s.stack → o.1 ≡ branch → o.0.store ≡ s.store → o.0.cells ≡ s.cells → o.0.history ≡ s.history → load P o.0.stack < load P s.stack
  low (move.solve_number m t z e) w b p q h = omega arith
  low (move.solve_known k t z y f) w b p q h = omega arith
  low (move.solve_narrowed {A = A} {B = B} k d t z l y v m) w b p q h = absurd (altered K B k d t z (w k t z A refl) l y q)
  low (move.activate {S = S} {n = n} c l) w b p q h = absurd (no_push S (record { identifier = n; fact = c }) p)
  low (move.reactivate f) w b p q h = omega arith
  low (move.dropped f j e) w b p q h = omega arith
  low (move.simplify {A = A} {S = S} {B = B} {T = T} {n = n} f j r x θ fs o F l) w b p q h =
      let k = head_within P f.fact.predicate j r x o in
      let m = removes_some F.combines (omega arith) in
      let n : length (rest_of (rule_at P r) fs S) ≡ length S = ap length p in
      absurd (omega arith)
  low (move.propagate f j r x θ fs o F l R u m) w b p q h = absurd (fires_alter F.combines R p h)
  low (move.default f j r x o N) w b p q h = let k = number_within (occurrences P f.fact.predicate) j (record { rule = r; head = x }) o in let a = k.0 in let c = k.1 in omega arith
  low (move.split r θ) w b p q h = no_choice b
  low (move.replaced {A = A} {E = E} r i θ e m) w b p q h = let x = load_append P E A in let y = items_load P e in omega arith
  low move.fails w b p q h = no_leaf b
  low (move.fails_number m t z e) w b p q h = no_leaf b
  low (move.fails_cell k t z f) w b p q h = no_leaf b
  low (move.breaks_item r i θ e y) w b p q h = no_leaf b
  low (move.breaks_store c l) w b p q h = no_leaf b
  low (move.breaks_waking k t z y x v m) w b p q h = no_leaf b
  low (move.breaks_body f j r x θ fs o F l R u m) w b p q h = no_leaf b
  low (move.breaks_items r i θ e m) w b p q h = no_leaf b
  low (move.breaks_history f j r x θ fs o F R u) w b p q h = no_leaf b

  lowers : (s t : State) → Quiet K P s t → load P t.stack < load P s.stack
  lowers s t q = low q.moves q.known refl q.store q.cells q.history

  run_lowers : {s t : State} {n : ℕ} → Quietly K P s n t → n + load P t.stack ≤ load P s.stack
  run_lowers rests = omega arith
  run_lowers (moves_on {s = s} {t = t} q r) = let a = lowers s t q in let b = run_lowers r in omega arith

-- an element that is not there is the default
pub in_or : {X : Type 0} (xs : List X) (i : ℕ) (d : X) → In (get_or xs i d) xs ⊎ (get_or xs i d ≡ d)
in_or [] i d = inr refl
in_or (x ∷ xs) zero d = inl here
in_or (x ∷ xs) (suc i) d = at (in_or xs i d)
  where
    at : In (get_or xs i d) xs ⊎ (get_or xs i d ≡ d) → In (get_or xs i d) (x ∷ xs) ⊎ (get_or xs i d ≡ d)
    at (inl a) = inl (there a)
    at (inr b) = inr b

items_few : (P : Program) → Small P → (r i : ℕ) → length (alternative_at (rule_at P r) i).items ≤ 8
items_few P m r i = at (in_or P r (record { heads = []; kept = 0; guard = []; body = [] })) (in_or (rule_at P r).body (pred i) (record { weight = 0; items = [] }))
  where
    none : rule_at P r ≡ record { heads = []; kept = 0; guard = []; body = [] } → length (alternative_at (rule_at P r) i).items ≤ 8
    none e = let z : length (alternative_at (rule_at P r) i).items ≡ 0 = ap (λ (x : Rule). length (alternative_at x i).items) e in omega arith

    at : In (rule_at P r) P ⊎ (rule_at P r ≡ record { heads = []; kept = 0; guard = []; body = [] }) → In (alternative_at (rule_at P r) i) (rule_at P r).body ⊎ (alternative_at (rule_at P r) i ≡ record { weight = 0; items = [] }) → length (alternative_at (rule_at P r) i).items ≤ 8
    at (inl a) (inl b) = m.few_items (rule_at P r) (alternative_at (rule_at P r) i) a b
    at (inl a) (inr b) = let z : length (alternative_at (rule_at P r) i).items ≡ 0 = ap (λ (x : Alternative). length x.items) b in omega arith
    at (inr a) b = none a

light : (P : Program) (e : Entry) → Small P → weight_of P e ≤ 99
light P (to_add f) m = omega arith
light P (to_tell v t z) m = omega arith
light P to_fail m = omega arith
light P (woken f) m = let h = m.few_occurrences f.fact.predicate in omega arith
light P (active f j) m = let h = m.few_occurrences f.fact.predicate in omega arith
light P (alternative r i θ) m = let h = items_few P m r i in omega arith
light P (choosing r θ) m = omega arith

loaded : (P : Program) (A : List Entry) → Small P → load P A ≤ length A * 99
loaded P [] m = omega arith
loaded P (e ∷ A) m = let a = light P e m in let b = loaded P A m in omega arith

whole : (P : Program) (s : State) → Small P → Sound s → load P s.stack ≤ 12672
whole P s m q = let a = loaded P s.stack m in let b = q.entries in omega arith

pub measure : Measure
measure = record {
  lowers = lowers;
  light = light;
  whole = whole;
  few_quiet = λ K P s t n m q r. let a = run_lowers K P r in let b = whole P s m q in omega arith;
}
