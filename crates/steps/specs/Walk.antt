-- The planner as a machine that walks and comes to choices and ends, and its walk along a path computed.
use Rattle.std.specs.Prelude.{◌≡◌, ℕ, zero, suc, true, false, ◌&&◌, List, [], ◌∷◌, ◌++◌, replicate, Some, None, Ok, Err, Option, Result, nat_le}
use Rattle.tree.specs.Walks.{Path, Standing, branch, choice, leaf, Machine, Walks, Stops}
use Rattle.steps.specs.Program.{Program, Item}
use Rattle.steps.specs.State.{Kind, Entry, to_add, to_tell, to_fail, woken, active, alternative, choosing, State, Cause, End}
use Rattle.steps.specs.Matching.{unbound}
use Rattle.steps.specs.Step.{entries_of, stands, with_stack, step}

-- the entries of a goal, which has no variables and no sums, so that all its items have values
abbrev pub goal_entries : Result (List Entry) Cause → List Entry
goal_entries (Ok es) = es
goal_entries (Err e) = []

-- the start: the goal's items on the stack, first on top; no fact, no firing, 32 whole cells, next identifier 1
abbrev pub start_of : Kind → List Item → State
start_of K goal = record { stack = goal_entries (entries_of unbound goal); store = []; cells = replicate 32 K.whole; history = []; next = 1 }

-- a choice gives way to its alternative of a number
abbrev pub chosen : Entry → ℕ → Entry
chosen (to_add f) i = to_add f
chosen (to_tell v t n) i = to_tell v t n
chosen to_fail i = to_fail
chosen (woken f) i = woken f
chosen (active f j) i = active f j
chosen (alternative r h bs) i = alternative r h bs
chosen (choosing r bs) i = alternative r i bs

-- alternative i in place of the choice on top
abbrev pub picked : State → ℕ → State
picked s i = elim s.stack [ [] ↦ s | ◌∷◌ e below ↦ with_stack s (chosen e i ∷ below) ]

-- the planner's machine for a program and a goal
abbrev pub machine : Kind → Program → List Item → Machine State End
machine K P goal = record { start = start_of K goal; begins = stands (start_of K goal).stack; next = step K P; pick = picked }

-- where a walk stands: the steps of each edge so far, the state, the standing
pub record Walked : Type 0 where
  pub edges : List ℕ
  pub state : State
  pub standing : Standing End

-- on to the end of the edge, or at most so many steps, n of its steps being made; then along the rest of the path
abbrev pub onwards : Machine State End → ℕ → (List ℕ → State → Standing End → Option Walked) → List ℕ → ℕ → State × Standing End → Option Walked
onwards M zero then edges n x = None
onwards M (suc most) then edges n x = elim x.1 [
  | branch ↦ onwards M most then edges (suc n) (M.next x.0)
  | choice m ↦ then (edges ++ (n ∷ [])) x.0 (choice m)
  | leaf e ↦ then (edges ++ (n ∷ [])) x.0 (leaf e)
]

-- along a path, each edge of fewer steps than given; none where a number of the path names no alternative
abbrev pub along : Machine State End → ℕ → Path → List ℕ → State → Standing End → Option Walked
along M most [] edges s st = Some (record { edges = edges; state = s; standing = st })
along M most (i ∷ p) edges s branch = None
along M most (i ∷ p) edges s (leaf e) = None
along M most (i ∷ p) edges s (choice m) = elim (nat_le 1 i && nat_le i m) [ true ↦ onwards M most (along M most p) edges 0 (M.pick s i, branch) | false ↦ None ]

-- the walk along a path from the start to the end of its last edge
abbrev pub walked : Machine State End → ℕ → Path → Option Walked
walked M most p = onwards M most (along M most p) [] 0 (M.start, M.begins)

-- the straight walk along p stands so, at a choice or an end, the steps of its last edge being told last
pub record Reached (M : Machine State End) (p : Path) (w : Walked) : Type 0 where
  pub steps : ℕ
  pub before : List ℕ
  pub edges : w.edges ≡ before ++ (steps ∷ [])
  pub walks : Walks M p steps w.state w.standing
  pub stops : Stops w.standing

-- what is computed is the straight walk
abbrev pub Computed : Type 0
Computed = (K : Kind) (P : Program) (goal : List Item) (most : ℕ) (p : Path) (w : Walked) → walked (machine K P goal) most p ≡ Some w → Reached (machine K P goal) p w
