-- What one line tells of an input: whether its book and goal are accepted. Assumes nothing.
use Rattle.std.specs.Prelude.{◌≡◌, ℕ, List, ◌++◌, codes, Ok, Err, Result}
use Rattle.parse.specs.Model.{Item}
use Rattle.book.specs.Reading.{Book, accepted, book_of, goal_of, Refuses}
use Rattle.book.specs.declared.faults.BookFault.{BookFault}
use Rattle.account.specs.declared.refusal.Source.{Source}
use Rattle.account.specs.declared.refusal.Source.TheVariants as source
use Rattle.account.specs.declared.refusal.Refusal.{Refusal}
use Rattle.account.specs.Parting.{Parted}
use Rattle.account.specs.Refusals.{refusal_text}

-- the book is refused; or it is accepted, and the goal is refused; want of memory says nothing of the text that is read
abbrev pub RefusesPart : List ℕ → List ℕ → Source → BookFault → Type 0
RefusesPart book goal source.Book f = Refuses f (book_of book)
RefusesPart book goal source.Goal f = (b : Book) × (book_of book ≡ accepted b) × Refuses f (goal_of b.predicates goal)

-- both are accepted, or one is refused
abbrev pub Judges : List ℕ → List ℕ → Result (Unit {0}) Refusal → Type 0
Judges book goal (Ok u) = (b : Book) × (book_of book ≡ accepted b) × ((is : List Item) × (goal_of b.predicates goal ≡ accepted is))
Judges book goal (Err r) = RefusesPart book goal r.source r.fault

-- an input is judged as its book and the goal behind it
pub record Judged (input : List ℕ) (found : Result (Unit {0}) Refusal) : Type 0 where
  pub book : List ℕ
  pub goal : List ℕ
  pub parted : Parted input book goal
  pub judges : Judges book goal found

-- the line that tells it
abbrev pub verdict_text : Result (Unit {0}) Refusal → List ℕ
verdict_text (Ok u) = codes "accepted\n"
verdict_text (Err r) = refusal_text r ++ codes "\n"

-- a line tells what the input comes to
pub record TellsVerdict (input line : List ℕ) : Type 0 where
  pub found : Result (Unit {0}) Refusal
  pub judged : Judged input found
  pub told : line ≡ verdict_text found
