-- What is computed of a walk is the straight walk. Assumes nothing.
use Rattle.std.proofs.Common.{◌≡◌, ℕ, zero, suc, Bool, true, false, ◌&&◌, leb, List, [], ◌∷◌, ◌++◌, Some, None, Option, sym, refl, subst, append_assoc, append-nil, add-one, arith, leb-true}
use Rattle.tree.specs.Walks.{Path, Standing, branch, choice, leaf, Machine, Walks, opened, onward, taken, Stops}
use Rattle.steps.specs.State.{State, End}
use Rattle.steps.specs.Walk.{Walked, onwards, along, machine, Reached, Computed}

never : {X : Type 0} (w : Walked) → ◌≡◌ {A = Option Walked} None (Some w) → X
never w e = let z : ◌≡◌ {A = ℕ} 0 1 = cc in absurd (omega arith)

-- what goes on from the end of an edge of p
abbrev After : Machine State End → (List ℕ → State → Standing End → Option Walked) → Path → Path → Walked → Type 0
After M then q p w = (edges : List ℕ) (m : ℕ) (s : State) (st : Standing End) → Walks M p m s st → Stops st → then (edges ++ (m ∷ [])) s st ≡ Some w → Reached M q w

through : (M : Machine State End) (most : ℕ) (then : List ℕ → State → Standing End → Option Walked) (q p : Path) (w : Walked) → After M then q p w →
    (edges : List ℕ) (n : ℕ) (s : State) (st : Standing End) → Walks M p n s st → onwards M most then edges n (s, st) ≡ Some w → Reached M q w
through M zero then q p w k edges n s st h e = never w e
through M (suc most) then q p w k edges n s branch h e =
    let t : State = (M.next s).0 in
    let st : Standing End = (M.next s).1 in
    let F : ℕ → Type 0 = λ m. Walks M p m t st in
    through M most then q p w k edges (suc n) t st (subst F (add-one n) (onward refl h)) e
through M (suc most) then q p w k edges n s (choice m) h e = k edges n s (choice m) h tt e
through M (suc most) then q p w k edges n s (leaf x) h e = k edges n s (leaf x) h tt e

at_choice : (M : Machine State End) (most i k : ℕ) (r p : Path) (w : Walked) (edges : List ℕ) (n : ℕ) (s : State) → After M (along M most r) (p ++ (i ∷ r)) (p ++ (i ∷ [])) w →
    Walks M p n s (choice k) → (x y : Bool) → leb 1 i ≡ x → leb i k ≡ y →
    elim (x && y) [ true ↦ onwards M most (along M most r) edges 0 (M.pick s i, branch) | false ↦ None ] ≡ Some w → Reached M (p ++ (i ∷ r)) w
at_choice M most i k r p w edges n s f h true true a b e =
    through M most (along M most r) (p ++ (i ∷ r)) (p ++ (i ∷ [])) w f edges 0 (M.pick s i) branch (taken i (leb-true 1 i a) (leb-true i k b) h) e
at_choice M most i k r p w edges n s f h true false a b e = never w e
at_choice M most i k r p w edges n s f h false true a b e = never w e
at_choice M most i k r p w edges n s f h false false a b e = never w e

follows : (M : Machine State End) (most : ℕ) (r p : Path) (w : Walked) → After M (along M most r) (p ++ r) p w
follows M most [] p w edges m s st h stop e =
    let u : Walked = record { edges = edges ++ (m ∷ []); state = s; standing = st } in
    let same : u ≡ w = cc in
    let F : Path → Type 0 = λ q. Walks M q m s st in
    subst (Reached M (p ++ [])) same (record { steps = m; before = edges; edges = refl; walks = subst F (sym (append-nil p)) h; stops = stop })
follows M most (i ∷ r) p w edges m s branch h stop e = never w e
follows M most (i ∷ r) p w edges m s (leaf x) h stop e = never w e
follows M most (i ∷ r) p w edges m s (choice k) h stop e =
    let F : Path → Type 0 = λ q. Reached M q w in
    at_choice M most i k r p w (edges ++ (m ∷ [])) m s
    (λ es n t st g stops d. subst F (append_assoc p (i ∷ []) r) (follows M most r (p ++ (i ∷ [])) w es n t st g stops d)) h (leb 1 i) (leb i k) refl refl e

pub computed : Computed
computed K P goal most p w e =
    let M : Machine State End = machine K P goal in
    through M most (along M most p) p [] w (follows M most p [] w) [] 0 M.start M.begins opened e
