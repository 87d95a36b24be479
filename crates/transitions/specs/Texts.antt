-- Books and goals that are accepted are such as the theorems ask. Assumes nothing.
use Rattle.std.specs.Prelude.{◌≡◌, ℕ, ◌≤◌, List, length}
use Rattle.parse.specs.Model.{Item}
use Rattle.book.specs.Predicates.{Predicate}
use Rattle.book.specs.Reading.{Book, accepted, book_of, goal_of}
use Rattle.steps.specs.Program.{Program, program_of, goal_items}
use Rattle.steps.specs.Program as program
use Rattle.steps.specs.Relations.{Every}
use Rattle.transitions.specs.Cells.{KnownItem, KnownProgram}
use Rattle.transitions.specs.Goals.{PlainGoal}
use Rattle.transitions.specs.Lawful.{SixVariables}
use Rattle.transitions.specs.Measure.{Small}

-- at most 6 variables, cells below 32, at most 96 occurrences of a predicate and 8 items in an alternative
pub record FitProgram (P : Program) : Type 0 where
  pub six : SixVariables P
  pub known : KnownProgram 32 P
  pub small : Small P

-- at most 16 items, cells below 32, no variables, and numbers within the limit
pub record FitGoal (goal : List program.Item) : Type 0 where
  pub few : length goal ≤ 16
  pub known : Every (KnownItem 32) goal
  pub plain : PlainGoal goal

pub record TextsFit : Type 0 where
  pub books : (text : List ℕ) (b : Book) → book_of text ≡ accepted b → FitProgram (program_of b)
  pub goals : (ps : List Predicate) (text : List ℕ) (is : List Item) → goal_of ps text ≡ accepted is → FitGoal (goal_items ps is)
