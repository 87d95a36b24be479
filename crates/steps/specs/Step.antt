-- One step: the state that it leaves, and where the machine then stands.
use Rattle.std.specs.Prelude.{ℕ, suc, pred, Bool, true, false, cond, ◌||◌, List, [], ◌∷◌, ◌++◌, length, drop, ℤ, pos, negsuc, Some, None, Ok, Err, Option, Result, ◌==◌, nat_lt, slice_index, slice_set}
use Rattle.cells.specs.declared.relations.Telling.{Telling}
use Rattle.cells.specs.Laws.{between}
use Rattle.cells.specs.Relations.{meets}
use Rattle.tree.specs.Walks.{Standing, branch, choice, leaf}
use Rattle.parse.specs.Model.{Term}
use Rattle.steps.specs.Program.{Program, Rule, Alternative, Item, add, tell, fail, Occurrence, rule_at, alternative_at, occurrences}
use Rattle.steps.specs.State.{Kind, Value, number, cell, Fact, Stored, Bindings, Entry, to_add, to_tell, to_fail, woken, active, alternative, choosing, Firing, State}
use Rattle.steps.specs.State.{Cause, cell_for_number, number_too_large, store_full, stack_full, history_full, End, answer, failed, broken}
use Rattle.steps.specs.Matching.{value_of, same_value, among, removes, Combination, combination}

-- a value of a body: it breaks with a cell in a sum, or with a number beyond 1,000,000,000 either way
abbrev pub body_value : Option Value → Result Value Cause
body_value None = Err cell_for_number
body_value (Some (cell k)) = Ok (cell k)
body_value (Some (number n)) = cond (between (negsuc 999999999) (pos 1000000000) n) (Ok (number n)) (Err number_too_large)

-- the number on the right of a told comparison: it breaks with a cell
abbrev pub body_number : Result Value Cause → Result ℤ Cause
body_number (Err e) = Err e
body_number (Ok (cell k)) = Err cell_for_number
body_number (Ok (number n)) = Ok n

-- two values joined; the first that breaks decides
abbrev pub joins : {A B C : Type 0} → (A → B → C) → Result A Cause → Result B Cause → Result C Cause
joins f (Err e) y = Err e
joins f (Ok a) (Err e) = Err e
joins f (Ok a) (Ok b) = Ok (f a b)

-- the arguments of a body's fact, from left to right
abbrev pub body_values : Bindings → List Term → Result (List Value) Cause
body_values bs [] = Ok []
body_values bs (t ∷ ts) = joins (λ v vs. v ∷ vs) (body_value (value_of bs t)) (body_values bs ts)

-- a fact to add, its arguments valued
abbrev pub adds : ℕ → Result (List Value) Cause → Result Entry Cause
adds p (Err e) = Err e
adds p (Ok vs) = Ok (to_add (record { predicate = p; arguments = vs }))

-- the entry of an item, its variables valued
abbrev pub entry_of : Bindings → Item → Result Entry Cause
entry_of bs (add p) = adds p.predicate (body_values bs p.arguments)
entry_of bs (tell c) = joins (λ l n. to_tell l c.telling n) (body_value (value_of bs c.left)) (body_number (body_value (value_of bs c.right)))
entry_of bs fail = Ok to_fail

-- the entries of items, from left to right
abbrev pub entries_of : Bindings → List Item → Result (List Entry) Cause
entries_of bs [] = Ok []
entries_of bs (i ∷ is) = joins (λ e es. e ∷ es) (entry_of bs i) (entries_of bs is)

-- what a step gives
abbrev pub Outcome : Type 0
Outcome = State × Standing End

-- an ending step alters nothing
abbrev pub ends : State → End → Outcome
ends s e = (s, leaf e)

-- an empty stack is an answer; else the branch goes on
abbrev pub stands : List Entry → Standing End
stands [] = leaf answer
stands (e ∷ es) = branch

-- the step leaves state t
abbrev pub goes : State → Outcome
goes t = (t, stands t.stack)

-- the step from s leaves t, unless more than 128 entries would stand on the stack
abbrev pub goes_within : State → State → Outcome
goes_within s t = elim (nat_lt 128 (length t.stack)) [ true ↦ ends s (broken stack_full) | false ↦ goes t ]

-- a state with another stack
abbrev pub with_stack : State → List Entry → State
with_stack s es = record { stack = es; store = s.store; cells = s.cells; history = s.history; next = s.next }

-- a fact gets the next identifier and becomes active at its first occurrence; the store holds at most 128
abbrev pub step_add : State → List Entry → Fact → Outcome
step_add s below f =
    let a : Stored = record { identifier = s.next; fact = f } in
    elim (nat_lt (length s.store) 128) [
      | true ↦ goes (record { stack = active a 1 ∷ below; store = s.store ++ (a ∷ []); cells = s.cells; history = s.history; next = suc s.next })
      | false ↦ ends s (broken store_full)
    ]

-- whether one of the arguments is the cell
abbrev pub mentions : ℕ → List Value → Bool
mentions k [] = false
mentions k (v ∷ vs) = same_value (cell k) v || mentions k vs

-- the stored facts that mention the cell, as woken entries, lowest identifier on top
abbrev pub woken_by : ℕ → List Stored → List Entry
woken_by k [] = []
woken_by k (f ∷ fs) = elim (mentions k f.fact.arguments) [ true ↦ woken f ∷ woken_by k fs | false ↦ woken_by k fs ]

-- cell k is narrowed to a content, or to none; facts are woken if its members changed, and equal members are equal contents
abbrev pub step_narrow : State → List Entry → ℕ → Option ℕ → Outcome
step_narrow s below k None = ends s failed
step_narrow s below k (Some d) =
    let wakes : List Entry = elim (d == slice_index s.cells k) [ true ↦ [] | false ↦ woken_by k s.store ] in
    goes_within s (record { stack = wakes ++ below; store = s.store; cells = slice_set s.cells k d; history = s.history; next = s.next })

-- a comparison is told: of a number it is dropped if true, and fails if not; a cell is narrowed
abbrev pub step_tell : Kind → State → List Entry → Value → Telling → ℤ → Outcome
step_tell K s below (number m) t n = elim (meets t m n) [ true ↦ goes (with_stack s below) | false ↦ ends s failed ]
step_tell K s below (cell k) t n = step_narrow s below k (K.narrowed (slice_index s.cells k) t n)

-- the stored facts but those with these identifiers
abbrev pub without : List ℕ → List Stored → List Stored
without is [] = []
without is (f ∷ fs) = elim (among f.identifier is) [ true ↦ without is fs | false ↦ f ∷ without is fs ]

-- a body on the stack: its only alternative, or a choice
abbrev pub body_entry : ℕ → List Alternative → Bindings → Entry
body_entry r [] bs = choosing r bs
body_entry r (a ∷ []) bs = alternative r 1 bs
body_entry r (a ∷ b ∷ as') bs = choosing r bs

-- the history after rule x of number r fired: only a rule that removes nothing is recorded
abbrev pub recorded : List Firing → ℕ → Rule → List ℕ → List Firing
recorded h r x is = elim (removes x) [ true ↦ h | false ↦ h ++ (record { rule = r; identifiers = is } ∷ []) ]

-- rule x of number r fires with active fact f at occurrence j: the facts of removed heads leave, the active entry too if its fact is one of
-- them, and the body goes on top; the history holds at most 256, which is looked at before the stack
abbrev pub step_fire : State → List Entry → Stored → ℕ → ℕ → Rule → Combination → Outcome
step_fire s below f j r x c =
    let gone : List ℕ = drop x.kept c.identifiers in
    let rest : List Entry = elim (among f.identifier gone) [ true ↦ below | false ↦ active f j ∷ below ] in
    let history : List Firing = recorded s.history r x c.identifiers in
    elim (nat_lt 256 (length history)) [
      | true ↦ ends s (broken history_full)
      | false ↦ goes_within s (record { stack = body_entry r x.body c.bindings ∷ rest; store = without gone s.store; cells = s.cells; history = history; next = s.next })
    ]

-- the occurrence of a number, counted from 1
abbrev pub occurrence_at : List Occurrence → ℕ → Option Occurrence
occurrence_at [] i = None
occurrence_at (o ∷ os) i = elim (i == 1) [ true ↦ Some o | false ↦ occurrence_at os (pred i) ]

-- the active fact f at occurrence j: the rule fires with the combination, or j rises by one
abbrev pub step_try : State → List Entry → Stored → ℕ → ℕ → Rule → Option Combination → Outcome
step_try s below f j r x None = goes (with_stack s (active f (suc j) ∷ below))
step_try s below f j r x (Some c) = step_fire s below f j r x c

-- it is dropped if there is no such occurrence
abbrev pub step_active : Kind → Program → State → List Entry → Stored → ℕ → Option Occurrence → Outcome
step_active K P s below f j None = goes (with_stack s below)
step_active K P s below f j (Some o) = step_try s below f j o.rule (rule_at P o.rule) (combination K s o.rule (rule_at P o.rule) o.head f.identifier)

-- an alternative is replaced by its items, unless one breaks
abbrev pub step_replace : State → List Entry → Result (List Entry) Cause → Outcome
step_replace s below (Err e) = ends s (broken e)
step_replace s below (Ok es) = goes_within s (with_stack s (es ++ below))

-- the top entry decides
abbrev pub step_entry : Kind → Program → State → List Entry → Entry → Outcome
step_entry K P s below (to_add f) = step_add s below f
step_entry K P s below (to_tell v t n) = step_tell K s below v t n
step_entry K P s below to_fail = ends s failed
step_entry K P s below (woken f) = goes (with_stack s (active f 1 ∷ below))
step_entry K P s below (active f j) = step_active K P s below f j (occurrence_at (occurrences P f.fact.predicate) j)
step_entry K P s below (alternative r i bs) = step_replace s below (entries_of bs (alternative_at (rule_at P r) i).items)
step_entry K P s below (choosing r bs) = (s, choice (length (rule_at P r).body))

-- one step; no step is made with an empty stack
abbrev pub step : Kind → Program → State → Outcome
step K P s = elim s.stack [ [] ↦ ends s answer | ◌∷◌ e below ↦ step_entry K P s below e ]
