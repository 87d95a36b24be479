-- Goals with nothing to value: no variables, no sums, and numbers within the limit. Assumes nothing.
use Rattle.std.specs.Prelude.{◌≡◌, ℕ, List, [], replicate, ℤ}
use Rattle.parse.specs.Model.{Term, Tell}
use Rattle.parse.specs.Model as term
use Rattle.steps.specs.Program.{Pattern, Item, add, tell, fail}
use Rattle.steps.specs.State.{Kind, Value, number, cell, Entry, to_add, to_tell, to_fail}
use Rattle.steps.specs.Relations.{Every, Each, Within}
use Rattle.steps.specs.Transitions.{state}
use Rattle.steps.specs.Walk.{start_of}

-- a number within the limit
abbrev pub PlainNumber : Term → Type 0
PlainNumber (term.number n) = Within n
PlainNumber (term.cell k) = ⊥
PlainNumber (term.variable i) = ⊥
PlainNumber (term.sum i n) = ⊥

-- such a number, or a cell
abbrev pub PlainTerm : Term → Type 0
PlainTerm (term.number n) = Within n
PlainTerm (term.cell k) = Unit {0}
PlainTerm (term.variable i) = ⊥
PlainTerm (term.sum i n) = ⊥

abbrev pub PlainItem : Item → Type 0
PlainItem (add p) = Every PlainTerm p.arguments
PlainItem (tell c) = PlainTerm c.left × PlainNumber c.right
PlainItem fail = Unit {0}

abbrev pub PlainGoal : List Item → Type 0
PlainGoal goal = Every PlainItem goal

-- the value that a term is written as
pub data Writes : Term → Value → Type 0 where
  number_written : (n : ℤ) → Within n → Writes (term.number n) (number n)
  cell_written : (k : ℕ) → Writes (term.cell k) (cell k)

-- the entry that an item is written as
pub data Written : Item → Entry → Type 0 where
  fact_written : (p : Pattern) (vs : List Value) → Each Writes p.arguments vs → Written (add p) (to_add (record { predicate = p.predicate; arguments = vs }))
  tell_written : (c : Tell) (v : Value) (n : ℤ) → Writes c.left v → Writes c.right (number n) → Written (tell c) (to_tell v c.telling n)
  fail_written : Written fail to_fail

-- a plain goal never breaks at the start, which is its items in their order, an empty store and history, and 32 whole cells
pub record PlainStarts : Type 0 where
  pub entries : (goal : List Item) → PlainGoal goal → (E : List Entry) × Each Written goal E
  pub starts : (K : Kind) (goal : List Item) (E : List Entry) → Each Written goal E → start_of K goal ≡ state E [] (replicate 32 K.whole) [] 1
