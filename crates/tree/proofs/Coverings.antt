-- At any time: every end was met or lies on or beyond one open path.
use Rattle.std.proofs.Common.{◌≡◌, ℕ, ◌+◌, ◌<◌, ◌≤◌, ◌⊎◌, List, [], ◌∷◌, ◌++◌, map, sym, refl, ap, subst, inl, inr, ⊎_elim, arith}
use Rattle.std.specs.List.{ContainsAt as Has, AllByRecursion}
use Rattle.std.proofs.ByRecursion.{all-has, has_append_right}
use Rattle.std.proofs.lemmas.List.{append-nil, append_assoc}
use Rattle.std.proofs.lemmas.Bool.{cases_lt}
use Rattle.tree.specs.Walks.{Path, Standing, branch, choice, leaf, Machine, Walks, Ends}
use Rattle.tree.specs.Laws.{Covering}
use Rattle.tree.proofs.Fronts.{no_end}
use Rattle.tree.proofs.Counts.{delta, delta_none, delta_cases, times, times_append, children_push, push_nil, has_here, has_there, has_found, has_counts, has_times, times_has}
use Rattle.tree.proofs.Tallies.{EndedEdge, Walked, children_at, all_children, paths, leaves_of, Tally}
use Rattle.tree.proofs.Wholes.{once_from, Beyond, reach, once, edge_of_path, leaves_of_ends, leaves_of_times, leaves_of_has, all_children_push, all_children_nil}

-- a path is empty or has a last alternative
snoc : (p : Path) → (p ≡ []) ⊎ ((q : Path) × (i : ℕ) × (p ≡ q ++ (i ∷ [])))
snoc [] = inl refl
snoc (j ∷ p) = inr (⊎_elim (λ e. ([], j, ap (λ (r : Path). j ∷ r) e)) (λ h. (j ∷ h.0, h.1, ap (λ (r : Path). j ∷ r) h.2)) (snoc p))

module _ {E : Type 0} where
  -- an alternative of a choice that was met
  all_children_edge : (q : Path) (i : ℕ) (done : List (EndedEdge E)) → 1 ≤ times (q ++ (i ∷ [])) (all_children done) → (k : EndedEdge E) × (m : ℕ) × Has done k × (k.path ≡ q) × (k.standing ≡ choice m)
  all_children_edge q i [] h = absurd (omega arith)
  all_children_edge q i (k ∷ ks) h = pick (cases_lt 0 (times (q ++ (i ∷ [])) (children_at k.path k.standing))) (all_children_edge q i ks)
    where
      Found : List (EndedEdge E) → Type 0
      Found l = (j : EndedEdge E) × (m : ℕ) × Has l j × (j.path ≡ q) × (j.standing ≡ choice m)

      by : (st : Standing E) → k.standing ≡ st → 0 < times (q ++ (i ∷ [])) (children_at k.path st) → Found (k ∷ ks)
      by branch e l = absurd (omega arith)
      by (choice m) e l = same (delta_cases q k.path)
        where
          same : (delta q k.path ≡ 0) ⊎ ((delta q k.path ≡ 1) × (q ≡ k.path)) → Found (k ∷ ks)
          same (inl z) = let a = children_push q k.path i m in absurd (omega arith)
          same (inr o) = (k, m, has_here k ks, sym o.1, e)
      by (leaf x) e l = absurd (omega arith)

      pick : (0 < times (q ++ (i ∷ [])) (children_at k.path k.standing)) ⊎ (times (q ++ (i ∷ [])) (children_at k.path k.standing) ≤ 0) → (1 ≤ times (q ++ (i ∷ [])) (all_children ks) → Found ks) → Found (k ∷ ks)
      pick (inl l) below = by k.standing refl l
      pick (inr l) below =
          let a = times_append (q ++ (i ∷ [])) (children_at k.path k.standing) (all_children ks) in
          let b = below (omega arith) in
          (b.0, b.1, has_there k b.0 ks b.2, b.3, b.4)

module _ {S E : Type 0} (M : Machine S E) (left : List Path) (done : List (EndedEdge E)) (walked : AllByRecursion (Walked M) done) (covers : (r : Path) → delta r [] + times r (all_children done) ≡ times r (paths done) + times r left) where
  all_once : (p : Path) → times p (paths done) + times p left ≤ 1
  all_once p =
      let P : Path → Type 0 = λ r. times r (paths done) + times r left ≤ 1 in
      ⊎_elim
      (λ e. subst P (sym e) (omega (arith, covers [], all_children_nil done)))
      (λ h. subst P (sym h.2) (omega (arith, covers (h.0 ++ (h.1 ∷ [])), all_children_push h.0 h.1 done, once M left done walked covers h.0, delta_none (h.0 ++ (h.1 ∷ [])) [] (push_nil h.0 h.1))))
      (snoc p)

  -- where a path beyond q was reached, q was ended at a choice
  above : (r q : Path) (i : ℕ) → 1 ≤ times (q ++ (i ∷ r)) (paths done) + times (q ++ (i ∷ r)) left → 1 ≤ times (q ++ (i ∷ [])) (all_children done)
  above [] q i h = let a = covers (q ++ (i ∷ [])) in let d = delta_none (q ++ (i ∷ [])) [] (push_nil q i) in omega arith
  above (j ∷ r) q i h =
      let e = append_assoc q (i ∷ []) (j ∷ r) in
      let b = above r (q ++ (i ∷ [])) j (subst (λ (x : Path). 1 ≤ times x (paths done) + times x left) (sym e) h) in
      let c = all_children_push (q ++ (i ∷ [])) j done in
      let a = covers (q ++ (i ∷ [])) in
      let d = delta_none (q ++ (i ∷ [])) [] (push_nil q i) in
      omega arith

  abbrev ahead : List Path
  ahead = map (λ (l : Path × E). l.0) (leaves_of done) ++ left

  ahead_le : (p : Path) → times p ahead ≤ times p (paths done) + times p left
  ahead_le p = let a = times_append p (map (λ (l : Path × E). l.0) (leaves_of done)) left in let b = leaves_of_times p done in omega arith

  clear : (q r : Path) (i : ℕ) → Has ahead q → Has ahead (q ++ (i ∷ r)) → ⊥
  clear q r i h g =
      let a = ahead_le (q ++ (i ∷ r)) in
      let b = has_times (q ++ (i ∷ r)) ahead g in
      let k = all_children_edge q i done (above r q i (omega arith)) in
      let c = has_times q ahead h in
      let d = times_append q (map (λ (l : Path × E). l.0) (leaves_of done)) left in
      let n : 1 ≤ times q (paths done) = subst (λ (x : Path). 1 ≤ times x (paths done)) k.3 (has_counts (λ (j : EndedEdge E). j.path) k.0 done k.2) in
      let o = all_once q in
      let f = has_found (λ (l : Path × E). l.0) q (leaves_of done) (omega arith) in
      let e = all-has (λ (l : Path × E). Ends M l.0 l.1) (leaves_of done) f.0 (leaves_of_ends M done walked) f.1 in
      let s = all-has (Walked M) done k.0 walked k.2 in
      let w : Walks M q k.0.steps s.0 (choice k.1) = subst (λ (x : Path). Walks M x k.0.steps s.0 (choice k.1)) k.3 (subst (λ (x : Standing E). Walks M k.0.path k.0.steps s.0 x) k.4 s.1) in
      no_end {M = M} q k.0.steps k.1 s.0 f.0.1 w (subst (λ (x : Path). Ends M x f.0.1) {x = f.0.0} f.2 e)

  covering : Covering M (leaves_of done) left
  covering = record {
    only = λ p e h. all-has (λ (l : Path × E). Ends M l.0 l.1) (leaves_of done) (p, e) (leaves_of_ends M done walked) h;
    once = once_from ahead (λ p. let a = ahead_le p in let b = all_once p in omega arith);
    covered = λ p e w. go p e w (reach M left done walked covers w.2);
    apart = clear;
  }
    where
      go : (p : Path) (e : E) → Ends M p e → (1 ≤ times p (paths done)) ⊎ Beyond left p → (q : Path) × (r : Path) × Has ahead q × (p ≡ q ++ r)
      go p e w (inl h) =
          let f = edge_of_path M left done walked covers p w.0 w.1 (leaf e) h w.2 tt in
          let l = has_counts (λ (x : Path × E). x.0) (f.0.path, e) (leaves_of done) (leaves_of_has e f.0 done f.1 f.4) in
          let a = times_append f.0.path (map (λ (x : Path × E). x.0) (leaves_of done)) left in
          let g : Has ahead f.0.path = times_has f.0.path ahead (omega arith) in
          (p, [], subst (Has ahead) f.2 g, sym (append-nil p))
      go p e w (inr b) = (b.0, b.1, has_append_right (map (λ (x : Path × E). x.0) (leaves_of done)) left b.0 (times_has b.0 left b.2), b.3)

pub tally_covering : {S E : Type 0} (M : Machine S E) (under waiting : List Path) (l : List (Path × E)) (k : ℕ) → Tally M under waiting l k → Covering M l (under ++ waiting)
tally_covering {S} {E} M under waiting l k c =
    subst (λ (x : List (Path × E)). Covering M x (under ++ waiting)) (sym c.leaves_are) (covering M (under ++ waiting) c.done c.walked (λ r. let a = c.covers r in let b = times_append r under waiting in omega arith))
