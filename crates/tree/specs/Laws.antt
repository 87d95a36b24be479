-- What holds of every machine and every search of it.
use Rattle.std.specs.Prelude.{◌≡◌, ℕ, true, false, List, [], ◌∷◌, ◌++◌, map, sum_by, ◌≢◌}
use Rattle.std.specs.List.{ContainsAt as Has}
use Rattle.std.specs.List.Sorted.{IsPermutation}
use Rattle.tree.specs.Walks.{Path, Standing, choice, Machine, Stops, Walks, Ends, Edge}
use Rattle.tree.specs.Searches.{Work, Told, told, Met, Place, out, at, under_way, Search, Moves, Reached}

-- no element stands twice in the list
abbrev pub Once : {X : Type 0} → List X → Type 0
Once [] = Unit {0}
Once (x ∷ xs) = (Has xs x → ⊥) × Once xs

-- the search is where the units say; and on the path told, after the steps told, the straight walk is in the same state and standing
abbrev pub Here : {S E : Type 0} → Machine S E → Told → Place S E → Type 0
Here M t out = t.out ≡ true
Here M t (at p n s st) = (t.out ≡ false) × (t.path ≡ p) × (t.edge ≡ n) × Walks M p n s st

-- these are all ends of the machine, each once, and these steps are those of all its edges, each once
pub record Complete {S E : Type 0} (M : Machine S E) (leaves : List (Path × E)) (steps : ℕ) : Type 0 where
  -- a path ends with an end exactly if the two are among the leaves
  pub has : (p : Path) (e : E) → Ends M p e → Has leaves (p, e)
  pub only : (p : Path) (e : E) → Has leaves (p, e) → Ends M p e
  -- no path is there twice
  pub once : Once (map (λ l. l.0) leaves)
  -- all edges, each once, with its steps
  pub edges : List (Path × ℕ)
  pub has_edge : (p : Path) (n : ℕ) → Edge M p n → Has edges (p, n)
  pub only_edge : (p : Path) (n : ℕ) → Has edges (p, n) → Edge M p n
  pub once_edge : Once (map (λ l. l.0) edges)
  -- the steps are their sum
  pub sums : sum_by (λ l. l.1) edges ≡ steps

-- at any time: every end was met, or lies on or beyond one path that is still open (under way or waiting). Exactly one of the leaves met and
-- the open paths is a prefix of its path
pub record Covering {S E : Type 0} (M : Machine S E) (leaves : List (Path × E)) (open-paths : List Path) : Type 0 where
  -- what was met is an end
  pub only : (p : Path) (e : E) → Has leaves (p, e) → Ends M p e
  -- no path was met twice, waits twice, or was met and is open
  pub once : Once (map (λ l. l.0) leaves ++ open-paths)
  -- a path that ends has a prefix among them
  pub covered : (p : Path) (e : E) → Ends M p e → (q : Path) × (r : Path) × Has (map (λ l. l.0) leaves ++ open-paths) q × (p ≡ q ++ r)
  -- and none of them is a proper prefix of another
  pub apart : (q r : Path) (i : ℕ) → Has (map (λ l. l.0) leaves ++ open-paths) q → Has (map (λ l. l.0) leaves ++ open-paths) (q ++ (i ∷ r)) → ⊥

-- the account of a search: what holds of the leaves, waiting paths, place and steps that it tells, after these units since its opening
pub record Account {S E : Type 0} (M : Machine S E) (us : List Work) (leaves : List (Path × E)) (waiting : List Path) (place : Place S E) (total : ℕ) : Type 0 where
  -- it is where the units say, in the straight walk's state and standing
  pub here : Here M (told us) place
  -- its steps are the units that were steps
  pub steps : total ≡ (told us).all
  -- its leaves are those that the units met, in that order
  pub met : Met M us leaves
  -- no end is lost, and none is met twice
  pub covers : Covering M leaves (under_way place ++ waiting)
  -- once it is out, nothing waits
  pub none_waits : place ≡ out → waiting ≡ []
  -- and it has met every end exactly once, and made the steps of every edge exactly once
  pub whole : place ≡ out → Complete M leaves total

-- the laws of a machine and of its searches
pub record Laws {S E : Type 0} (M : Machine S E) : Type 0 where
  -- the path and the steps determine the state and the standing
  pub determined : (p : Path) (n : ℕ) (s t : S) (x y : Standing E) → Walks M p n s x → Walks M p n t y → (s ≡ t) × (x ≡ y)
  -- a path's walk stops in one way only: after so many steps, in one state, at one standing
  pub one_edge : (p : Path) (n k : ℕ) (s t : S) (x y : Standing E) → Walks M p n s x → Stops x → Walks M p k t y → Stops y → (n ≡ k) × (s ≡ t) × (x ≡ y)
  -- no walk goes on beyond a path that ends
  pub no_further : (p q : Path) (i n : ℕ) (e : E) (s : S) (x : Standing E) → Ends M p e → Walks M (p ++ (i ∷ q)) n s x → ⊥
  -- a path at a choice does not end
  pub no_end : (p : Path) (n m : ℕ) (s : S) (e : E) → Walks M p n s (choice m) → Ends M p e → ⊥
  -- every search, whatever waiting branch it enters each time, has an account
  pub account : (us : List Work) (x : Search S E) → Reached M us x → Account M us x.leaves (map (λ w. w.0) x.waiting) x.place x.steps
  -- all ends and all steps can be told in one way only, up to the order of the leaves
  pub one_whole : (k l : List (Path × E)) (m n : ℕ) → Complete M k m → Complete M l n → IsPermutation k l × (m ≡ n)
  -- two searches that are both out have met the same leaves, up to their order, and made as many steps
  pub same : (us vs : List Work) (x y : Search S E) → Reached M us x → Reached M vs y → x.place ≡ out → y.place ≡ out → IsPermutation x.leaves y.leaves × (x.steps ≡ y.steps)
  -- a search that is not out can do a unit
  pub moves : (x : Search S E) → (x.place ≢ out) → (u : Work) × (y : Search S E) × Moves M x u y
  -- the units determine the leaves met
  pub met_once : (us : List Work) (k l : List (Path × E)) → Met M us k → Met M us l → k ≡ l

-- the theorem: the laws hold of every machine
abbrev pub Statement : Type 0 → Type 0 → Type 0
Statement S E = (M : Machine S E) → Laws M
