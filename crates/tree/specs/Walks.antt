-- A machine that makes steps and comes to choices and ends, and the straight walk, which follows a path and never turns back.
use Rattle.std.specs.Prelude.{◌≡◌, ℕ, ◌+◌, ◌≤◌, List, [], ◌∷◌, ◌++◌}

-- a path: the numbers of the alternatives taken, from the start on, counted from 1
abbrev pub Path : Type 0
Path = List ℕ

-- what a machine stands at: on a branch, where it can step on; at a choice with so many alternatives; at a leaf with its end
pub data Standing (E : Type 0) : Type 0 where
  branch : Standing E
  choice : ℕ → Standing E
  leaf : E → Standing E

-- a machine over states S with ends E. Nothing is asked of its parts
pub record Machine (S E : Type 0) : Type 0 where
  -- the state that it starts in
  pub start : S
  -- what it stands at there
  pub begins : Standing E
  -- one step: the state after it, and what the machine then stands at
  pub next : S → S × Standing E
  -- the state in which the alternative of this number begins, from the state at the choice
  pub pick : S → ℕ → S

-- no step goes on from here: a choice or a leaf
abbrev pub Stops : {E : Type 0} → Standing E → Type 0
Stops branch = ⊥
Stops (choice m) = Unit {0}
Stops (leaf e) = Unit {0}

-- Walks M p n s st: the straight walk along p, after n steps since p's last alternative was taken, is in state s and stands at st
pub data Walks {S E : Type 0} (M : Machine S E) : Path → ℕ → S → Standing E → Type 0 where
  -- before any step
  opened : Walks M [] 0 M.start M.begins
  -- on a branch it makes a step
  onward : {p : Path} {n : ℕ} {s t : S} {st : Standing E} → M.next s ≡ (t, st) → Walks M p n s branch → Walks M p (n + 1) t st
  -- at a choice of m it takes an alternative from 1 to m
  taken : {p : Path} {n m : ℕ} {s : S} (i : ℕ) → 1 ≤ i → i ≤ m → Walks M p n s (choice m) → Walks M (p ++ (i ∷ [])) 0 (M.pick s i) branch

-- the walk along p comes to a leaf with this end
abbrev pub Ends : {S E : Type 0} → Machine S E → Path → E → Type 0
Ends {S} M p e = (n : ℕ) × (s : S) × Walks M p n s (leaf e)

-- the edge of p has n steps: so many from p's last alternative (or from the start) to a choice or a leaf
abbrev pub Edge : {S E : Type 0} → Machine S E → Path → ℕ → Type 0
Edge {S} {E} M p n = (s : S) × (st : Standing E) × Walks M p n s st × Stops st
