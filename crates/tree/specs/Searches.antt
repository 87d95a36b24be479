-- What a search did, unit by unit, what that comes to, and a search that keeps its waiting branches in a bag.
use Rattle.std.specs.Prelude.{◌≡◌, ℕ, zero, suc, ◌+◌, Bool, true, false, List, [], ◌∷◌, ◌++◌, fold}
use Rattle.std.specs.List.Sorted.{IsPermutation}
use Rattle.tree.specs.Walks.{Path, Standing, branch, choice, leaf, Machine, Stops, Walks}

-- a unit of work: one step, entering the waiting branch of this path, or finding that none waits
pub data Work : Type 0 where
  stepped : Work
  entered : Path → Work
  exhausted : Work

-- what units tell of where a search stands
pub record Told : Type 0 where
  -- the path of the current branch
  pub path : Path
  -- the steps made on its edge
  pub edge : ℕ
  -- the steps made in all
  pub all : ℕ
  -- whether the search is out of branches
  pub out : Bool

-- what is told after one more unit
abbrev pub after : Told → Work → Told
after t stepped = record { path = t.path; edge = t.edge + 1; all = t.all + 1; out = t.out }
after t (entered p) = record { path = p; edge = 0; all = t.all; out = t.out }
after t exhausted = record { path = t.path; edge = t.edge; all = t.all; out = true }

-- what is told after these units, from the opening on: the empty path and no steps
abbrev pub told : List Work → Told
told us = fold after (record { path = []; edge = 0; all = 0; out = false }) us

-- the leaf met at a standing, with its path; none unless it is one
abbrev pub leaves_at : {E : Type 0} → Path → Standing E → List (Path × E)
leaves_at p branch = []
leaves_at p (choice m) = []
leaves_at p (leaf e) = (p, e) ∷ []

-- the leaves that these units meet, in the order met, by a search that stands n steps along the edge of p: a step meets the leaf that
-- the straight walk then stands at, if it is one
abbrev pub Meets : {S E : Type 0} → Machine S E → Path → ℕ → List Work → List (Path × E) → Type 0
Meets M p n [] l = l ≡ []
Meets {S} {E} M p n (stepped ∷ us) l = (s : S) × (st : Standing E) × (rest : List (Path × E)) × Walks M p (n + 1) s st × (l ≡ leaves_at p st ++ rest) × Meets M p (n + 1) us rest
Meets M p n (entered q ∷ us) l = Meets M q 0 us l
Meets M p n (exhausted ∷ us) l = Meets M p n us l

-- the leaves met by the opening and these units since, in the order met
abbrev pub Met : {S E : Type 0} → Machine S E → List Work → List (Path × E) → Type 0
Met {S} {E} M us l = (rest : List (Path × E)) × (l ≡ leaves_at [] M.begins ++ rest) × Meets M [] 0 us rest

-- the alternatives 1 to m of a choice at the end of p, in state s: each one's path and the state that it begins in
abbrev pub alternatives : {S E : Type 0} → Machine S E → Path → S → ℕ → List (Path × S)
alternatives M p s zero = []
alternatives M p s (suc m) = alternatives M p s m ++ ((p ++ (suc m ∷ []), M.pick s (suc m)) ∷ [])

-- the branches that wait anew where a search comes to stand: the alternatives of a choice
abbrev pub new_waiting : {S E : Type 0} → Machine S E → Path → S → Standing E → List (Path × S)
new_waiting M p s branch = []
new_waiting M p s (choice m) = alternatives M p s m
new_waiting M p s (leaf e) = []

-- where a search is: out of branches, or on the path p, n steps along its edge, in state s and standing at st
pub data Place (S E : Type 0) : Type 0 where
  out : Place S E
  at : Path → ℕ → S → Standing E → Place S E

-- the path, unless its edge has ended
abbrev pub pending : {E : Type 0} → Path → Standing E → List Path
pending p branch = p ∷ []
pending p (choice m) = []
pending p (leaf e) = []

-- the path that is begun and whose edge has not ended, if there is one
abbrev pub under_way : {S E : Type 0} → Place S E → List Path
under_way out = []
under_way (at p n s st) = pending p st

-- a search, as the theorem sees one
pub record Search (S E : Type 0) : Type 0 where
  -- the leaves met, in the order met
  pub leaves : List (Path × E)
  -- the branches that wait, with the state that each begins in; their order does not count
  pub waiting : List (Path × S)
  -- where it is
  pub place : Place S E
  -- the steps made in all
  pub steps : ℕ

-- one unit takes a search to another. Shuffled: the same elements, each as often, in any order; so any waiting branch may be entered
pub data Moves {S E : Type 0} (M : Machine S E) : Search S E → Work → Search S E → Type 0 where
  -- on a branch: a step of the machine; a leaf is met, the alternatives of a choice wait
  makes_step : {l : List (Path × E)} {w v : List (Path × S)} {p : Path} {n k : ℕ} {s t : S} {st : Standing E} → M.next s ≡ (t, st) → IsPermutation (w ++ new_waiting M p t st) v → Moves M (record { leaves = l; waiting = w; place = at p n s branch; steps = k }) stepped (record { leaves = l ++ leaves_at p st; waiting = v; place = at p (n + 1) t st; steps = k + 1 })
  -- at a choice or a leaf: some waiting branch is entered, and waits no more
  enters : {l : List (Path × E)} {w v : List (Path × S)} {p q : Path} {n k : ℕ} {s t : S} {st : Standing E} → Stops st → IsPermutation w ((q, t) ∷ v) → Moves M (record { leaves = l; waiting = w; place = at p n s st; steps = k }) (entered q) (record { leaves = l; waiting = v; place = at q 0 t branch; steps = k })
  -- at a choice or a leaf with nothing waiting: the search is out
  runs_out : {l : List (Path × E)} {p : Path} {n k : ℕ} {s : S} {st : Standing E} → Stops st → Moves M (record { leaves = l; waiting = []; place = at p n s st; steps = k }) exhausted (record { leaves = l; waiting = []; place = out; steps = k })

-- a search after these units since its opening
pub data Reached {S E : Type 0} (M : Machine S E) : List Work → Search S E → Type 0 where
  fresh : {w : List (Path × S)} → IsPermutation (new_waiting M [] M.start M.begins) w → Reached M [] (record { leaves = leaves_at [] M.begins; waiting = w; place = at [] 0 M.start M.begins; steps = 0 })
  more : {us : List Work} {x y : Search S E} (u : Work) → Reached M us x → Moves M x u y → Reached M (us ++ (u ∷ [])) y
