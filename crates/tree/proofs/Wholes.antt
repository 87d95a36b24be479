-- When nothing waits and nothing is under way, every end was met exactly once.
use Rattle.std.proofs.Common.{◌≡◌, ℕ, ◌+◌, ◌<◌, ◌≤◌, ◌⊎◌, List, [], ◌∷◌, ◌++◌, map, sum_by, sym, refl, ap, ◌∙◌, subst, inl, inr, ⊎_elim, arith}
use Rattle.std.specs.List.{ContainsAt as Has, AllByRecursion}
use Rattle.std.proofs.lemmas.List.Sums.{sum_by-cons}
use Rattle.std.proofs.ByRecursion.{all-has, All-append, has_append_left, has_append_right}
use Rattle.std.proofs.lemmas.List.{map-append, append-nil, append_assoc}
use Rattle.std.proofs.lemmas.Bool.{cases_lt}
use Rattle.tree.specs.Walks.{Path, Standing, branch, choice, leaf, Machine, Stops, Walks, opened, onward, taken, Ends, Edge}
use Rattle.tree.specs.Searches.{leaves_at}
use Rattle.tree.specs.Laws.{Once, Complete}
use Rattle.tree.proofs.Fronts.{one_edge}
use Rattle.tree.proofs.Counts.{delta, delta_same, delta_none, times, times_append, children, children_nil, children_push, children_has, push_nil, has_here, has_there, has_nil, has_cases, has_found, has_times}
use Rattle.tree.proofs.Tallies.{EndedEdge, Walked, children_at, all_children, paths, leaves_of, steps_of, Tally}

-- a list in which no path counts twice has none twice
pub once_from : (xs : List Path) → ((p : Path) → times p xs ≤ 1) → Once xs
once_from [] h = tt
once_from (x ∷ xs) h = (λ a. let b = has_times x xs a in let c = h x in let d = delta_same x x refl in omega arith, once_from xs (λ p. let c = h p in omega arith))

module _ {E : Type 0} where
  children_at_nil : (p : Path) (st : Standing E) → times [] (children_at p st) ≡ 0
  children_at_nil p branch = refl
  children_at_nil p (choice m) = children_nil p m
  children_at_nil p (leaf e) = refl

  children_at_push : (q p : Path) (i : ℕ) (st : Standing E) → times (q ++ (i ∷ [])) (children_at p st) ≤ delta q p
  children_at_push q p i branch = omega arith
  children_at_push q p i (choice m) = children_push q p i m
  children_at_push q p i (leaf e) = omega arith

  pub all_children_nil : (done : List (EndedEdge E)) → times [] (all_children done) ≡ 0
  all_children_nil [] = refl
  all_children_nil (k ∷ ks) =
      let a = times_append [] (children_at k.path k.standing) (all_children ks) in
      let b = children_at_nil k.path k.standing in
      let c = all_children_nil ks in
      omega arith

  pub all_children_push : (q : Path) (i : ℕ) (done : List (EndedEdge E)) → times (q ++ (i ∷ [])) (all_children done) ≤ times q (paths done)
  all_children_push q i [] = omega arith
  all_children_push q i (k ∷ ks) =
      let a = times_append (q ++ (i ∷ [])) (children_at k.path k.standing) (all_children ks) in
      let b = children_at_push q k.path i k.standing in
      let c = all_children_push q i ks in
      omega arith

  all_children_has : (r : Path) (k : EndedEdge E) (done : List (EndedEdge E)) → Has done k → 1 ≤ times r (children_at k.path k.standing) → 1 ≤ times r (all_children done)
  all_children_has r k [] h l = absurd (has_nil k h)
  all_children_has r k (j ∷ ks) h l =
      let a = times_append r (children_at j.path j.standing) (all_children ks) in
      ⊎_elim
      (λ e. omega (arith, ap (λ (x : EndedEdge E). times r (children_at x.path x.standing)) e))
      (λ m. omega (arith, all_children_has r k ks m l))
      (has_cases j k ks h)

  leaves_at_times : (r p : Path) (st : Standing E) → times r (map (λ (l : Path × E). l.0) (leaves_at p st)) ≤ delta r p
  leaves_at_times r p branch = omega arith
  leaves_at_times r p (choice m) = omega arith
  leaves_at_times r p (leaf e) = omega arith

  pub leaves_of_times : (r : Path) (done : List (EndedEdge E)) → times r (map (λ (l : Path × E). l.0) (leaves_of done)) ≤ times r (paths done)
  leaves_of_times r [] = omega arith
  leaves_of_times r (k ∷ ks) =
      let a = ap (times r) (map-append (λ (l : Path × E). l.0) (leaves_at k.path k.standing) (leaves_of ks)) in
      let b = times_append r (map (λ (l : Path × E). l.0) (leaves_at k.path k.standing)) (map (λ (l : Path × E). l.0) (leaves_of ks)) in
      let c = leaves_at_times r k.path k.standing in
      let d = leaves_of_times r ks in
      omega arith

  pub leaves_of_has : (e : E) (k : EndedEdge E) (done : List (EndedEdge E)) → Has done k → k.standing ≡ leaf e → Has (leaves_of done) (k.path, e)
  leaves_of_has e k [] h s = absurd (has_nil k h)
  leaves_of_has e k (j ∷ ks) h s =
      ⊎_elim
      (λ b.
      let P : List (Path × E) → Type 0 = λ l. Has l (k.path, e) in
      let c : leaves_at k.path k.standing ≡ ((k.path, e) ∷ []) = ap (leaves_at k.path) s in
      let d : leaves_at j.path j.standing ≡ leaves_at k.path k.standing = ap (λ (x : EndedEdge E). leaves_at x.path x.standing) b in
      has_append_left _ (leaves_of ks) (k.path, e) (subst P (sym (d ∙ c)) (has_here (k.path, e) [])))
      (λ m. has_append_right (leaves_at j.path j.standing) (leaves_of ks) (k.path, e) (leaves_of_has e k ks m s))
      (has_cases j k ks h)

  abbrev edge_of : EndedEdge E → Path × ℕ
  edge_of k = (k.path, k.steps)

  edges_has : (k : EndedEdge E) (done : List (EndedEdge E)) → Has done k → Has (map edge_of done) (k.path, k.steps)
  edges_has k [] h = absurd (has_nil k h)
  edges_has k (j ∷ ks) h =
      ⊎_elim
      (λ e. subst (λ (x : EndedEdge E). Has (edge_of j ∷ map edge_of ks) (edge_of x)) e (has_here (edge_of j) (map edge_of ks)))
      (λ m. has_there (edge_of j) (edge_of k) (map edge_of ks) (edges_has k ks m))
      (has_cases j k ks h)

  edges_paths : (done : List (EndedEdge E)) → map (λ (l : Path × ℕ). l.0) (map edge_of done) ≡ paths done
  edges_paths [] = refl
  edges_paths (k ∷ ks) = ap (λ (r : List Path). k.path ∷ r) (edges_paths ks)

  edges_sum : (done : List (EndedEdge E)) → sum_by (λ (l : Path × ℕ). l.1) (map edge_of done) ≡ steps_of done
  edges_sum [] = refl
  edges_sum (k ∷ ks) =
      let a = sum_by-cons (λ (l : Path × ℕ). l.1) (edge_of k) (map edge_of ks) in
      let b = sum_by-cons (λ (j : EndedEdge E). j.steps) k ks in
      let c = edges_sum ks in
      omega arith

-- an open path is a prefix of p
abbrev pub Beyond : List Path → Path → Type 0
Beyond left p = (q : Path) × (r : Path) × (1 ≤ times q left) × (p ≡ q ++ r)

module _ {S E : Type 0} (M : Machine S E) where
  leaves_at_ends : (k : EndedEdge E) → Walked M k → AllByRecursion (λ (l : Path × E). Ends M l.0 l.1) (leaves_at k.path k.standing)
  leaves_at_ends k d = go k.standing d.1
    where
      go : (st : Standing E) → Walks M k.path k.steps d.0 st → AllByRecursion (λ (l : Path × E). Ends M l.0 l.1) (leaves_at k.path st)
      go branch w = tt
      go (choice m) w = tt
      go (leaf e) w = ((k.steps, d.0, w), tt)

  pub leaves_of_ends : (done : List (EndedEdge E)) → AllByRecursion (Walked M) done → AllByRecursion (λ (l : Path × E). Ends M l.0 l.1) (leaves_of done)
  leaves_of_ends [] a = tt
  leaves_of_ends (k ∷ ks) a = All-append _ (leaves_at k.path k.standing) (leaves_of ks) (leaves_at_ends k a.0) (leaves_of_ends ks a.1)

  edges_edges : (done : List (EndedEdge E)) → AllByRecursion (Walked M) done → AllByRecursion (λ (l : Path × ℕ). Edge M l.0 l.1) (map edge_of done)
  edges_edges [] a = tt
  edges_edges (k ∷ ks) a = ((a.0.0, k.standing, a.0.1, a.0.2), edges_edges ks a.1)

  module _ (left : List Path) (done : List (EndedEdge E)) (walked : AllByRecursion (Walked M) done) (covers : (r : Path) → delta r [] + times r (all_children done) ≡ times r (paths done) + times r left) where
    -- a walked path counts at most once among the ended
    most : {p : Path} {n : ℕ} {s : S} {x : Standing E} → Walks M p n s x → times p (paths done) ≤ 1
    most opened = let a = covers [] in let b = all_children_nil done in omega arith
    most (onward e w) = most w
    most (taken {p} i low high w) =
        let a = covers (p ++ (i ∷ [])) in
        let b = all_children_push p i done in
        let c = delta_none (p ++ (i ∷ [])) [] (push_nil p i) in
        let d = most w in
        omega arith

    -- the ended edge of a path that is among them and whose walk stops
    pub edge_of_path : (p : Path) (n : ℕ) (s : S) (x : Standing E) → 1 ≤ times p (paths done) → Walks M p n s x → Stops x → (k : EndedEdge E) × Has done k × (k.path ≡ p) × (k.steps ≡ n) × (k.standing ≡ x)
    edge_of_path p n s x h w halt =
        let f = has_found (λ (k : EndedEdge E). k.path) p done h in
        let k = f.0 in
        let d = all-has (Walked M) done k walked f.1 in
        let P : Path → Type 0 = λ q. Walks M q k.steps d.0 k.standing in
        let o = one_edge {M = M} p k.steps n d.0 s k.standing x (subst P f.2 d.1) d.2 w halt in
        (k, f.1, f.2, o.0, o.2)

    -- a walk's path was ended, or a prefix of it is open
    pub reach : {p : Path} {n : ℕ} {s : S} {x : Standing E} → Walks M p n s x → (1 ≤ times p (paths done)) ⊎ Beyond left p
    reach opened = let a = covers [] in ⊎_elim (λ l. inl (omega arith)) (λ l. inr ([], [], omega arith, refl)) (cases_lt 0 (times [] (paths done)))
    reach (onward e w) = reach w
    reach (taken {p} {n} {m} {s} i low high w) = go (reach w)
      where
        split : (0 < times (p ++ (i ∷ [])) (paths done)) ⊎ (times (p ++ (i ∷ [])) (paths done) ≤ 0) → 1 ≤ times (p ++ (i ∷ [])) (all_children done) → (1 ≤ times (p ++ (i ∷ [])) (paths done)) ⊎ Beyond left (p ++ (i ∷ []))
        split (inl l) c = inl (omega arith)
        split (inr l) c = let d = covers (p ++ (i ∷ [])) in inr (p ++ (i ∷ []), [], omega arith, sym (append-nil (p ++ (i ∷ []))))

        go : (1 ≤ times p (paths done)) ⊎ Beyond left p → (1 ≤ times (p ++ (i ∷ [])) (paths done)) ⊎ Beyond left (p ++ (i ∷ []))
        go (inl h) =
            let f = edge_of_path p n s (choice m) h w tt in
            let k = f.0 in
            let a : times (p ++ (i ∷ [])) (children_at k.path k.standing) ≡ times (p ++ (i ∷ [])) (children p m) = ap (λ (st : Standing E). times (p ++ (i ∷ [])) (children_at k.path st)) f.4 ∙ ap (λ (q : Path). times (p ++ (i ∷ [])) (children q m)) f.2 in
            let b = children_has p i m low high in
            split (cases_lt 0 (times (p ++ (i ∷ [])) (paths done))) (all_children_has (p ++ (i ∷ [])) k done f.1 (omega arith))
        go (inr b) = inr (b.0, b.1 ++ (i ∷ []), b.2, ap (λ (q : Path). q ++ (i ∷ [])) b.3 ∙ append_assoc b.0 b.1 (i ∷ []))

    pub once : (p : Path) → times p (paths done) ≤ 1
    once p =
        ⊎_elim
        (λ l.
        let f = has_found (λ (k : EndedEdge E). k.path) p done (omega arith) in
        let P : Path → Type 0 = λ q. times q (paths done) ≤ 1 in
        subst P f.2 (most (all-has (Walked M) done f.0 walked f.1).1))
        (λ l. l)
        (cases_lt 1 (times p (paths done)))

  module _ (done : List (EndedEdge E)) (walked : AllByRecursion (Walked M) done) (covers : (r : Path) → delta r [] + times r (all_children done) ≡ times r (paths done) + times r []) where
    -- and, with nothing open, at least once
    least : {p : Path} {n : ℕ} {s : S} {x : Standing E} → Walks M p n s x → 1 ≤ times p (paths done)
    least w = ⊎_elim (λ h. h) (λ b. absurd (omega (arith, b.2))) (reach [] done walked covers w)

    -- so the ended edges are all edges
    complete : Complete M (leaves_of done) (steps_of done)
    complete = record {
      has = λ p e w.
          let f = edge_of_path [] done walked covers p w.0 w.1 (leaf e) (least w.2) w.2 tt in
          subst (λ (q : Path). Has (leaves_of done) (q, e)) f.2 (leaves_of_has e f.0 done f.1 f.4);
      only = λ p e h. all-has (λ (l : Path × E). Ends M l.0 l.1) (leaves_of done) (p, e) (leaves_of_ends done walked) h;
      once = once_from (map (λ (l : Path × E). l.0) (leaves_of done)) (λ p. let a = leaves_of_times p done in let b = once [] done walked covers p in omega arith);
      edges = map edge_of done;
      has_edge = λ p n w.
          let f = edge_of_path [] done walked covers p n w.0 w.1 (least w.2) w.2 w.3 in
          let P : ℕ → Type 0 = λ j. Has (map edge_of done) (p, j) in
          let Q : Path → Type 0 = λ q. Has (map edge_of done) (q, f.0.steps) in
          subst P f.3 (subst Q f.2 (edges_has f.0 done f.1));
      only_edge = λ p n h. all-has (λ (l : Path × ℕ). Edge M l.0 l.1) (map edge_of done) (p, n) (edges_edges done walked) h;
      once_edge = once_from (map (λ (l : Path × ℕ). l.0) (map edge_of done)) (λ p. let a = ap (times p) (edges_paths done) in let b = once [] done walked covers p in omega arith);
      sums = edges_sum done;
    }

  pub tally_complete : (l : List (Path × E)) (k : ℕ) → Tally M [] [] l k → Complete M l k
  tally_complete l k c =
      let P : List (Path × E) → Type 0 = λ x. Complete M x k in
      let Q : ℕ → Type 0 = λ x. Complete M (leaves_of c.done) x in
      subst P (sym c.leaves_are) (subst Q (sym c.sum_is) (complete c.done c.walked (λ r. let a = c.covers r in omega arith)))
