-- What the machine works on: values, facts, entries, states, and the ends of a branch.
use Rattle.std.specs.Prelude.{ℕ, Bool, List, ℤ, Option}
use Rattle.cells.specs.declared.relations.Relation.{Relation}
use Rattle.cells.specs.declared.relations.Telling.{Telling}

-- a kind of cell: which numbers are contents, and what their members are; the whole content; what narrowing leaves; what asking answers
pub record Kind : Type 0 where
  pub content : ℕ → Bool
  pub member : ℕ → ℤ → Bool
  pub whole : ℕ
  pub narrowed : ℕ → Telling → ℤ → Option ℕ
  pub asked : ℕ → Relation → ℤ → Bool

-- an argument of a fact: a number, or the cell of a number
pub data Value : Type 0 where
  number : ℤ → Value
  cell : ℕ → Value

-- a fact: the number of its predicate, and its arguments
pub record Fact : Type 0 where
  pub predicate : ℕ
  pub arguments : List Value

-- a fact of the store, with its identifier
pub record Stored : Type 0 where
  pub identifier : ℕ
  pub fact : Fact

-- the values of a rule's variables, by their numbers; none while a variable has no value
abbrev pub Bindings : Type 0
Bindings = List (Option Value)

-- an entry of the execution stack
pub data Entry : Type 0 where
  -- a fact to add
  to_add : Fact → Entry
  -- a comparison to tell: of a value, with a number on its right
  to_tell : Value → Telling → ℤ → Entry
  -- `fail`
  to_fail : Entry
  -- a woken fact
  woken : Stored → Entry
  -- an active fact at an occurrence, counted from 1
  active : Stored → ℕ → Entry
  -- an alternative of a rule, by the rule's number and its own, counted from 1
  alternative : ℕ → ℕ → Bindings → Entry
  -- a choice between the alternatives of a rule
  choosing : ℕ → Bindings → Entry

-- a record of the propagation history: a rule, and the identifiers of its heads' facts in the order written
pub record Firing : Type 0 where
  pub rule : ℕ
  pub identifiers : List ℕ

-- a state: the execution stack, its top first; the store, by rising identifier; the content of each cell; the propagation history, in the
-- order of firing; the next identifier
pub record State : Type 0 where
  pub stack : List Entry
  pub store : List Stored
  pub cells : List ℕ
  pub history : List Firing
  pub next : ℕ

-- why a branch breaks
pub data Cause : Type 0 where
  -- 1: a cell in a body's sum, or on the right of a told comparison
  cell_for_number : Cause
  -- 2: a body's number beyond 1,000,000,000 either way
  number_too_large : Cause
  -- 3: a 129th fact in the store
  store_full : Cause
  -- 4: a 129th entry on the stack
  stack_full : Cause
  -- 5: a 257th firing in the history
  history_full : Cause

-- a cause by its number
abbrev pub cause_number : Cause → ℕ
cause_number cell_for_number = 1
cause_number number_too_large = 2
cause_number store_full = 3
cause_number stack_full = 4
cause_number history_full = 5

-- how a branch ends
pub data End : Type 0 where
  answer : End
  failed : End
  broken : Cause → End
