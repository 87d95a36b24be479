-- The invariant that every unit keeps and that the account follows from. A program's own account cites it; to read the theorem it is not needed.
use Rattle.std.specs.Prelude.{◌≡◌, ℕ, zero, suc, ◌+◌, cond, List, [], ◌∷◌, ◌++◌, map, sum_by, ◌==◌}
use Rattle.std.specs.List.{flat_map, AllByRecursion}
use Rattle.tree.specs.Walks.{Path, Standing, branch, choice, leaf, Machine, Stops, Walks}
use Rattle.tree.specs.Searches.{Work, told, leaves_at, Met, Place, out, at, under_way}
use Rattle.tree.specs.Laws.{Here}

-- 1 if the two are the same path, else 0
abbrev pub delta : Path → Path → ℕ
delta [] [] = 1
delta [] (j ∷ q) = 0
delta (i ∷ p) [] = 0
delta (i ∷ p) (j ∷ q) = cond (i == j) (delta p q) 0

-- how often a path stands in a list of paths
abbrev pub times : Path → List Path → ℕ
times p [] = 0
times p (q ∷ qs) = delta p q + times p qs

-- the paths of the alternatives 1 to m of a choice at the end of p
abbrev pub children : Path → ℕ → List Path
children p zero = []
children p (suc m) = children p m ++ ((p ++ (suc m ∷ [])) ∷ [])

-- an edge that has ended: its path, its steps, and the choice or leaf at its end
pub record EndedEdge (E : Type 0) : Type 0 where
  pub path : Path
  pub steps : ℕ
  pub standing : Standing E

-- the straight walk has this edge
abbrev pub Walked : {S E : Type 0} → Machine S E → EndedEdge E → Type 0
Walked {S} M k = (s : S) × Walks M k.path k.steps s k.standing × Stops k.standing

-- the paths of the alternatives at a standing; none unless it is a choice
abbrev pub children_at : {E : Type 0} → Path → Standing E → List Path
children_at p branch = []
children_at p (choice m) = children p m
children_at p (leaf e) = []

-- the paths of the alternatives of all choices that these edges end at
abbrev pub all_children : {E : Type 0} → List (EndedEdge E) → List Path
all_children {E} done = flat_map (λ (k : EndedEdge E). children_at k.path k.standing) done

-- the paths of these edges
abbrev pub paths : {E : Type 0} → List (EndedEdge E) → List Path
paths {E} done = map (λ (k : EndedEdge E). k.path) done

-- the leaves that these edges end at
abbrev pub leaves_of : {E : Type 0} → List (EndedEdge E) → List (Path × E)
leaves_of {E} done = flat_map (λ (k : EndedEdge E). leaves_at k.path k.standing) done

-- the steps of these edges together
abbrev pub steps_of : {E : Type 0} → List (EndedEdge E) → ℕ
steps_of {E} done = sum_by (λ (k : EndedEdge E). k.steps) done

-- the tally of a search: some list of ended edges accounts for the leaves and steps told, and for every path
pub record Tally {S E : Type 0} (M : Machine S E) (under waiting : List Path) (leaves : List (Path × E)) (sum : ℕ) : Type 0 where
  -- the edges that have ended, in the order in which they did
  pub done : List (EndedEdge E)
  pub walked : AllByRecursion (Walked M) done
  -- the root and the alternatives of all choices met are, each as often, the paths ended, under way and waiting
  pub covers : (r : Path) → delta r [] + times r (all_children done) ≡ times r (paths done) + (times r under + times r waiting)
  pub leaves_are : leaves ≡ leaves_of done
  pub sum_is : sum ≡ steps_of done

-- the steps of an edge that has ended; 0 of one under way
abbrev pub ended_steps : {E : Type 0} → ℕ → Standing E → ℕ
ended_steps n branch = 0
ended_steps n (choice m) = n
ended_steps n (leaf e) = n

-- the steps made on an edge under way; 0 of one that has ended
abbrev pub unended_steps : {E : Type 0} → ℕ → Standing E → ℕ
unended_steps n branch = n
unended_steps n (choice m) = 0
unended_steps n (leaf e) = 0

-- the steps made on the edge under way, if there is one
abbrev pub steps_under_way : {S E : Type 0} → Place S E → ℕ
steps_under_way out = 0
steps_under_way (at p n s st) = unended_steps n st

-- what a search that tells these leaves, waiting paths, place and steps holds after these units
pub record Held {S E : Type 0} (M : Machine S E) (us : List Work) (leaves : List (Path × E)) (waiting : List Path) (place : Place S E) (steps : ℕ) : Type 0 where
  -- the steps of the edges that have ended
  pub sum : ℕ
  pub tally : Tally M (under_way place) waiting leaves sum
  pub steps_are : steps ≡ sum + steps_under_way place
  pub counted : steps ≡ (told us).all
  pub here : Here M (told us) place
  pub met : Met M us leaves
  -- a search that is out has nothing waiting
  pub spent : place ≡ out → waiting ≡ []
