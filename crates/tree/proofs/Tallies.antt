-- The tally at the opening, and how each unit keeps it.
use Rattle.std.proofs.Common.{◌≡◌, ℕ, ◌+◌, List, [], ◌∷◌, ◌++◌, refl, ap, ◌∙◌, arith}
use Rattle.std.proofs.lemmas.List.Sums.{sum_by_push}
use Rattle.std.proofs.ByRecursion.{All-push}
use Rattle.std.proofs.lemmas.List.{flat_map_more, map_push, append-nil}
use Rattle.tree.specs.Walks.{Path, Standing, branch, choice, leaf, Machine, Stops, Walks}
use Rattle.tree.specs.Searches.{leaves_at, pending}
pub use Rattle.tree.specs.Held.{EndedEdge, Walked, children_at, all_children, paths, leaves_of, steps_of, Tally, ended_steps}
use Rattle.tree.proofs.Counts.{delta, times, times_append}

module _ {S E : Type 0} (M : Machine S E) where
  -- before the opening is looked at: the root is under way
  pub tally_fresh : Tally M ([] ∷ []) [] [] 0
  tally_fresh = record { done = []; walked = tt; covers = λ r. omega arith; leaves_are = refl; sum_is = refl }

  -- one more edge has ended
  stop : (p : Path) (n : ℕ) (t : S) (st : Standing E) (w v : List Path) (l : List (Path × E)) (k : ℕ) → Tally M (p ∷ []) w l k → Walks M p n t st → Stops st → ((r : Path) → times r v ≡ times r w + times r (children_at p st)) → Tally M [] v (l ++ leaves_at p st) (k + n)
  stop p n t st w v l k c walk halt bag =
      let m : EndedEdge E = record { path = p; steps = n; standing = st } in
      record {
        done = c.done ++ (m ∷ []);
        walked = All-push (Walked M) c.done m c.walked (t, walk, halt);
        covers = λ r.
            let a = ap (times r) (flat_map_more (λ (j : EndedEdge E). children_at j.path j.standing) [] c.done m) in
            let b = times_append r (all_children c.done) (children_at p st) in
            let d = ap (times r) (map_push (λ (j : EndedEdge E). j.path) c.done m) in
            let e = times_append r (paths c.done) (p ∷ []) in
            let f = c.covers r in
            let g = bag r in
            omega arith;
        leaves_are = ap (λ x. x ++ leaves_at p st) c.leaves_are ∙ flat_map_more (λ (j : EndedEdge E). leaves_at j.path j.standing) [] c.done m;
        sum_is = let a = c.sum_is in let b = sum_by_push (λ (j : EndedEdge E). j.steps) c.done m in omega arith;
      }

  -- a step: the edge goes on, or ends at a choice, whose alternatives then wait, or at a leaf
  pub tally_step : (p : Path) (n : ℕ) (t : S) (st : Standing E) (w v : List Path) (l : List (Path × E)) (k : ℕ) → Tally M (p ∷ []) w l k → Walks M p n t st → ((r : Path) → times r v ≡ times r w + times r (children_at p st)) → Tally M (pending p st) v (l ++ leaves_at p st) (k + ended_steps n st)
  tally_step p n t branch w v l k c walk bag =
      record { done = c.done; walked = c.walked; covers = λ r. let a = c.covers r in let b = bag r in omega arith; leaves_are = append-nil l ∙ c.leaves_are; sum_is = let a = c.sum_is in omega arith }
  tally_step p n t (choice m) w v l k c walk bag = stop p n t (choice m) w v l k c walk tt bag
  tally_step p n t (leaf e) w v l k c walk bag = stop p n t (leaf e) w v l k c walk tt bag

  -- a waiting path is entered
  pub tally_enter : (q : Path) (w v : List Path) (l : List (Path × E)) (k : ℕ) → Tally M [] w l k → ((r : Path) → times r w ≡ delta r q + times r v) → Tally M (q ∷ []) v l k
  tally_enter q w v l k c bag = record { done = c.done; walked = c.walked; covers = λ r. let a = c.covers r in let b = bag r in omega arith; leaves_are = c.leaves_are; sum_is = c.sum_is }
