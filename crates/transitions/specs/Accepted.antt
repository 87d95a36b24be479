-- The theorems for texts: of an accepted book and an accepted goal nothing more is asked. Assumes nothing.
use Rattle.std.specs.Prelude.{◌≡◌, ℕ, ◌≤◌, ◌↔◌, List, [], replicate}
use Rattle.tree.specs.Walks.{Path, Standing, branch, Walks}
use Rattle.parse.specs.Model as model
use Rattle.book.specs.Reading.{Book, accepted, book_of, goal_of}
use Rattle.steps.specs.Program.{Program, Item, program_of, goal_items}
use Rattle.steps.specs.State.{Kind, Entry, State, End}
use Rattle.steps.specs.Step.{Outcome, step}
use Rattle.steps.specs.Walk.{start_of, machine}
use Rattle.steps.specs.Relations.{Each}
use Rattle.steps.specs.Transitions.{state, Transition}
use Rattle.transitions.specs.Lawful.{Lawful}
use Rattle.transitions.specs.Sound.{Sound}
use Rattle.transitions.specs.Cells.{Known, Still}
use Rattle.transitions.specs.Derivations.{Derives}
use Rattle.transitions.specs.Goals.{Written}

-- what holds of a program and a goal with a kind of cell
pub record WalksWell (K : Kind) (P : Program) (goal : List Item) : Type 0 where
  -- the start is the goal's items in their order, with no facts, no firings and 32 whole cells
  pub starts : (E : List Entry) × Each Written goal E × (start_of K goal ≡ state E [] (replicate 32 K.whole) [] 1)
  -- on a branch there is exactly one transition, the computed step
  pub one : (p : Path) (n : ℕ) (s : State) → Walks (machine K P goal) p n s branch → (o : Outcome) → Transition K P s o ↔ (o ≡ step K P s)
  -- the walks are the derivations
  pub same : (p : Path) (n : ℕ) (s : State) (st : Standing End) → Walks (machine K P goal) p n s st ↔ Derives K P goal p n s st
  -- every state is within the limits, and mentions only the cells that there are
  pub sound : (p : Path) (n : ℕ) (s : State) (st : Standing End) → Walks (machine K P goal) p n s st → Sound s × Known s
  -- at most 12,672 steps in a row alter nothing but the stack
  pub still : (p : Path) (n m : ℕ) (s t : State) → Walks (machine K P goal) p n s branch → Still K P s m t → m ≤ 12672

abbrev pub AcceptedWalks : Type 0
AcceptedWalks =
    (K : Kind) → Lawful K → (book goal : List ℕ) (b : Book) (is : List model.Item) → book_of book ≡ accepted b → goal_of b.predicates goal ≡ accepted is → WalksWell K (program_of b) (goal_items b.predicates is)
