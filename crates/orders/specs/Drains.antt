-- What it is to give up everything.
use Rattle.std.specs.Prelude.{◌≡◌, ℕ, List, [], ◌∷◌, ◌++◌, map, Some, Option}
use Rattle.std.specs.List.Sorted.{IsPermutation}
use Rattle.orders.specs.declared.branches.Waiting.{Waiting}
use Rattle.orders.specs.Rows.{FirstOut}

-- the numbers of waiting branches
abbrev pub numbers : List Waiting → List ℕ
numbers ws = map (λ (w : Waiting). w.number) ws

-- from one state of an order to another by giving up the numbers listed, one after the other, each as the relation gives says
pub data Gave {S : Type 0} (gives : S → Option ℕ → S → Type 0) (start : S) : List ℕ → S → Type 0 where
  nothing : Gave gives start [] start
  further : {ns : List ℕ} {s : S} (n : ℕ) (t : S) → gives s (Some n) t → Gave gives start ns s → Gave gives start (ns ++ (n ∷ [])) t

-- everything was given up: the numbers are those of the bag, each as often; each pick is the order's own; nothing waits any more
pub record Drained {S : Type 0} (bag : S → List Waiting) (gives : S → Option ℕ → S → Type 0) (before : S) (given : List ℕ) (after : S) : Type 0 where
  pub all : IsPermutation (numbers (bag before)) given
  pub picks : Gave gives before given after
  pub empty : bag after ≡ []

-- an order that always gives up the first of its row, as depth first and breadth first do, gives up the row from front to back
abbrev pub RowFromFront : Type 0 → Type 0
RowFromFront S =
    (row : S → List Waiting) (before after : S) (given : List ℕ)
    → Gave (λ s r t. FirstOut (row s) r (row t)) before given after → row after ≡ [] → given ≡ numbers (row before)
