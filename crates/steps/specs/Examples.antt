-- Books and goals as texts, and where the walk along a path stands. Assumes nothing.
use Rattle.std.specs.Prelude.{◌≡◌, ℕ, List, [], ◌∷◌, length, pos, negsuc, Some, None, codes, Option}
use Rattle.cells.specs.Bounds.{is_bounds, bounds_member, packed, bounds_narrowed, bounds_asked}
use Rattle.cells.specs.Sets.{is_set, set_member, window, set_narrowed, set_asked}
use Rattle.tree.specs.Walks.{Path, Standing, choice, leaf}
use Rattle.parse.specs.Model as model
use Rattle.book.specs.Reading.{Book, Verdict, accepted, refused, book_of, goal_of}
use Rattle.steps.specs.Program.{program_of, goal_items}
use Rattle.steps.specs.State.{Kind, Value, number, Stored, State}
use Rattle.steps.specs.State.{stack_full, End, answer, failed, broken}
use Rattle.steps.specs.Walk.{machine, Walked, walked}

-- the two kinds
abbrev pub bounds : Kind
bounds = record { content = is_bounds; member = bounds_member; whole = packed (negsuc 999999999) (pos 1000000000); narrowed = bounds_narrowed; asked = bounds_asked }

abbrev pub sets : Kind
sets = record { content = is_set; member = set_member; whole = window 0 63; narrowed = set_narrowed; asked = set_asked }

-- the walk along a path, each of its edges below 2,000 steps; none if the goal is refused
abbrev pub walked_goal : Kind → Book → Path → Verdict (List model.Item) → Option Walked
walked_goal K b p (refused f) = None
walked_goal K b p (accepted is) = walked (machine K (program_of b) (goal_items b.predicates is)) 2000 p

-- none if the book is refused
abbrev pub walked_book : Kind → List ℕ → Path → Verdict Book → Option Walked
walked_book K goal p (refused f) = None
walked_book K goal p (accepted b) = walked_goal K b p (goal_of b.predicates goal)

-- the steps of each edge, the standing, and what is seen of the state
abbrev pub seen : {X : Type 0} → (State → X) → Option Walked → Option (List ℕ × Standing End × X)
seen see None = None
seen see (Some w) = Some (w.edges, w.standing, see w.state)

-- the common statement: for a book and a goal as texts, the walk along p has edges of so many steps, comes to this standing, and of its
-- state this is seen
abbrev pub Gives : {X : Type 0} → Kind → (State → X) → List ℕ → List ℕ → Path → List ℕ → Standing End → X → Type 0
Gives K see book goal p edges st x = seen see (walked_book K goal p (book_of book)) ≡ Some (edges, st, x)

-- how many facts there are, and how many firings
abbrev pub counts : State → ℕ × ℕ
counts s = (length s.store, length s.history)

-- the facts
abbrev pub facts : State → List Stored
facts s = s.store

-- a fact with its identifier, the number of its predicate and its arguments
abbrev pub stored : ℕ → ℕ → List Value → Stored
stored i p vs = record { identifier = i; fact = record { predicate = p; arguments = vs } }

-- an older position gives way, a ring takes one of two keys, and the first key is barred at offset 5
abbrev pub drive : List ℕ
drive = codes "new @ at(S,X) \\ at(T,Y) <=> T < S | true.\npick @ ring(R) <=> key(R,1) ; key(R,2).\nbar @ key(R,1), at(S,5) <=> fail.\n"

abbrev pub drive_goal : List ℕ
drive_goal = codes "?- at(2,5), at(1,9), ring(7)."

pub record Examples : Type 0 where
  -- 11 steps to the choice
  pub choosing_key : Gives bounds facts drive drive_goal [] (11 ∷ []) (choice 2) (stored 1 0 (number (pos 2) ∷ number (pos 5) ∷ []) ∷ [])
  -- 5 more with the first key, which is barred
  pub first_key : Gives bounds facts drive drive_goal (1 ∷ []) (11 ∷ 5 ∷ []) (leaf failed) []
  -- 4 with the second, to an answer with at(2,5) and key(7,2)
  pub second_key :
      Gives bounds facts drive drive_goal (2 ∷ []) (11 ∷ 4 ∷ []) (leaf answer)
      (stored 1 0 (number (pos 2) ∷ number (pos 5) ∷ []) ∷ stored 4 2 (number (pos 7) ∷ number (pos 2) ∷ []) ∷ [])
  -- `true` answers in 0 steps, with any kind and any book
  pub nothing_to_do : (K : Kind) (text : List ℕ) (b : Book) → book_of text ≡ accepted b → Gives K counts text (codes "?- true.") [] (0 ∷ []) (leaf answer) (0, 0)
  -- a propagation answers in 7
  pub propagates : Gives bounds facts (codes "p @ a ==> b.") (codes "?- a.") [] (7 ∷ []) (leaf answer) (stored 1 0 [] ∷ stored 2 1 [] ∷ [])
  -- a book that only grows breaks by a 129th entry at step 383
  pub grows : Gives bounds counts (codes "q @ a ==> a.") (codes "?- a.") [] (383 ∷ []) (leaf (broken stack_full)) (128, 127)
