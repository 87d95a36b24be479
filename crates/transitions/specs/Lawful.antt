-- What the theorems ask of a kind of cell and of a program. Assumes nothing.
use Rattle.std.specs.Prelude.{ℕ, ◌<◌, ℤ}
use Rattle.cells.specs.Laws.{Inhabited, Confined, Extensional, Entire, Narrows, Answers}
use Rattle.steps.specs.Program.{Program, Rule}
use Rattle.steps.specs.State.{Kind}
use Rattle.steps.specs.Relations.{In, InHeads}

-- a kind keeps its laws, between some two ends
pub record Lawful (K : Kind) : Type 0 where
  pub lowest : ℤ
  pub highest : ℤ
  pub inhabited : Inhabited K.content K.member
  pub confined : Confined lowest highest K.content K.member
  pub extensional : Extensional K.content K.member
  pub entire : Entire lowest highest K.content K.member K.whole
  pub narrows : Narrows K.content K.member K.narrowed
  pub answers : Answers K.member K.asked

-- the variables of every rule's heads are among 6
abbrev pub SixVariables : Program → Type 0
SixVariables P = (x : Rule) (i : ℕ) → In x P → InHeads i x.heads → i < 6
