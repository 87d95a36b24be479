-- The cells that a state mentions are cells that it has. Assumes nothing.
use Rattle.std.specs.Prelude.{◌≡◌, ℕ, suc, ◌<◌, ◌≤◌, List, length, Some, None, slice_index_or}
use Rattle.parse.specs.Model.{Term}
use Rattle.parse.specs.Model as term
use Rattle.tree.specs.Walks.{Path, Standing, branch, Walks}
use Rattle.steps.specs.Program.{Program, Rule, Alternative, Item, add, tell, fail}
use Rattle.steps.specs.State.{Kind, Value, number, cell, Bindings, Entry, to_add, to_tell, to_fail, woken, active, alternative, choosing, State, End}
use Rattle.steps.specs.Step.{step}
use Rattle.steps.specs.Walk.{machine}
use Rattle.steps.specs.Relations.{In, Every}
use Rattle.transitions.specs.Lawful.{Lawful, SixVariables}
use Rattle.transitions.specs.Measure.{Small}

-- a value that is a number, or one of n cells
abbrev pub KnownValue : ℕ → Value → Type 0
KnownValue n (number m) = Unit {0}
KnownValue n (cell k) = k < n

abbrev pub KnownTerm : ℕ → Term → Type 0
KnownTerm n (term.number m) = Unit {0}
KnownTerm n (term.cell k) = k < n
KnownTerm n (term.variable i) = Unit {0}
KnownTerm n (term.sum i m) = Unit {0}

abbrev pub KnownItem : ℕ → Item → Type 0
KnownItem n (add p) = Every (KnownTerm n) p.arguments
KnownItem n (tell c) = KnownTerm n c.left
KnownItem n fail = Unit {0}

-- the bodies of a program
abbrev pub KnownProgram : ℕ → Program → Type 0
KnownProgram n P = (x : Rule) (a : Alternative) (i : Item) → In x P → In a x.body → In i a.items → KnownItem n i

abbrev pub KnownBindings : ℕ → Bindings → Type 0
KnownBindings n θ = (i : ℕ) (v : Value) → slice_index_or θ i None ≡ Some v → KnownValue n v

-- what an entry brings to the state: a woken or active fact nothing
abbrev pub KnownEntry : ℕ → Entry → Type 0
KnownEntry n (to_add f) = Every (KnownValue n) f.arguments
KnownEntry n (to_tell v t z) = KnownValue n v
KnownEntry n to_fail = Unit {0}
KnownEntry n (woken f) = Unit {0}
KnownEntry n (active f j) = Unit {0}
KnownEntry n (alternative r i θ) = KnownBindings n θ
KnownEntry n (choosing r θ) = KnownBindings n θ

pub record Known (s : State) : Type 0 where
  pub many : length s.cells ≡ 32
  pub entries : Every (KnownEntry 32) s.stack
  pub facts : Every (λ f. Every (KnownValue 32) f.fact.arguments) s.store

-- so many steps in a row that stay on a branch and alter neither store, cells nor history
pub data Still (K : Kind) (P : Program) : State → ℕ → State → Type 0 where
  rests : {s : State} → Still K P s 0 s
  steps_on : {s t u : State} {n : ℕ} → step K P s ≡ (t, branch) → t.store ≡ s.store → t.cells ≡ s.cells → t.history ≡ s.history → Still K P t n u → Still K P s (suc n) u

-- of a program and a goal with cells below 32: every state of a walk mentions only its 32 cells; and if the program is small, at most
-- 12,672 steps in a row alter nothing but the stack
pub record CellsKnown : Type 0 where
  pub walks : (K : Kind) (P : Program) (goal : List Item) → Lawful K → SixVariables P → KnownProgram 32 P → Every (KnownItem 32) goal → length goal ≤ 16 →
      (p : Path) (n : ℕ) (s : State) (st : Standing End) → Walks (machine K P goal) p n s st → Known s
  pub still : (K : Kind) (P : Program) (goal : List Item) → Lawful K → SixVariables P → KnownProgram 32 P → Every (KnownItem 32) goal → length goal ≤ 16 → Small P →
      (p : Path) (n m : ℕ) (s t : State) → Walks (machine K P goal) p n s branch → Still K P s m t → m ≤ 12672
