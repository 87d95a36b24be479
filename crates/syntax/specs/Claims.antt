-- What is claimed of the reading of books and goals. Assumes nothing.
use Rattle.std.specs.Prelude.{◌≡◌, ℕ, true, ◌↔◌, List, [], ◌∷◌, ◌++◌, length, ◌≢◌}
use Rattle.syntax.specs.Syntax.{W, sign, plain, Fine, ok, Said, Reader}
use Rattle.syntax.specs.Exact.{Exact}
use Rattle.syntax.specs.Tree.{Rule, Content}
use Rattle.syntax.specs.Grammar.{say_book, say_goal}
use Rattle.syntax.specs.Limits.{BookKept, GoalKept}
use Rattle.syntax.specs.Readers.{read_book, read_goal}
use Rattle.syntax.specs.Marking.{guard_ahead, marked, written, Raw}
use Rattle.syntax.specs.Marks.{bar, dot}

-- over marked words, books and goals are accepted, barred and faulted exactly as the grammar says
abbrev pub BooksExactly : Type 0
BooksExactly = (ws : List W) → Exact read_book say_book ws

abbrev pub GoalsExactly : Type 0
GoalsExactly = (ws : List W) → Exact read_goal say_goal ws

-- over words as written: accepted as b exactly if they are those that b is written with, none with a fault
abbrev pub WrittenExactly : {X : Type 0} → Reader X → (X → Said) → Type 0
WrittenExactly {X} read say =
    (ws : List W) → Raw ws → (b : X) → (read (marked ws) ≡ ok b []) ↔ ((written (plain (say b)) ≡ ws) × Fine (say b))

-- marking keeps each word in its place: as many words as before, and written as they were
abbrev pub MarkingMovesNothing : Type 0
MarkingMovesNothing = ((ws : List W) → length (marked ws) ≡ length ws) × ((ws : List W) → Raw ws → written (marked ws) ≡ ws)

-- a book or goal has no fault exactly if it keeps the limits and names its variables and rules as it should
abbrev pub LimitsExactly : Type 0
LimitsExactly = ((b : List Rule) → Fine (say_book b) ↔ BookKept b) × ((c : Content) → Fine (say_goal c) ↔ GoalKept c)

-- the mark is none of the words
abbrev pub Lacks : ℕ → List W → Type 0
Lacks c [] = Unit {0}
Lacks c (w ∷ r) = (sign c ≢ w) × Lacks c r

-- a guard is ahead exactly if a `|` comes, with no `.` before it
abbrev pub GuardsTold : Type 0
GuardsTold =
    (ws : List W) → (guard_ahead ws ≡ true) ↔ ((p : List W) × (r : List W) × (ws ≡ p ++ sign bar ∷ r) × Lacks dot p)
