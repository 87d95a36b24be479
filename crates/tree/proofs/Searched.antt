-- What a search holds after each of its units, over its parts, and what it comes to.
use Rattle.std.proofs.Common.{◌≡◌, ℕ, zero, suc, ◌+◌, ◌≤◌, true, List, [], ◌∷◌, ◌++◌, map, sym, refl, ap, ◌∙◌, subst, arith}
use Rattle.std.specs.List.{AllByRecursion}
use Rattle.std.specs.List.Sorted.{IsPermutation}
use Rattle.std.proofs.ByRecursion.{All-append, All-push, all_shuffled}
use Rattle.std.proofs.lemmas.List.Sorted.{IsPermutation-refl}
use Rattle.std.proofs.lemmas.List.{map-append, map_push, append-nil}
use Rattle.std.proofs.lemmas.Bool.{false≢true}
use Rattle.tree.specs.Walks.{Path, Standing, branch, choice, leaf, Machine, Stops, Walks, opened, onward, taken}
use Rattle.tree.specs.Searches.{Work, stepped, entered, exhausted, Told, told, leaves_at, alternatives, new_waiting, Place, out, at, pending, under_way, Search, Moves, makes_step, enters, runs_out, Reached, fresh, more}
use Rattle.tree.specs.Laws.{Here, Complete, Account}
pub use Rattle.tree.specs.Held.{unended_steps, steps_under_way, Held}
use Rattle.tree.proofs.Counts.{delta, times, times_append, times_map_shuffled, children}
use Rattle.tree.proofs.Tallies.{children_at, Tally, tally_fresh, tally_step, tally_enter, ended_steps}
use Rattle.tree.proofs.Wholes.{tally_complete}
use Rattle.tree.proofs.Coverings.{tally_covering}
use Rattle.tree.proofs.Histories.{told_push, met_fresh, met_step, met_enter, met_exhaust}

at_out : {S E : Type 0} (p : Path) (n : ℕ) (s : S) (st : Standing E) → at p n s st ≡ out → ⊥
at_out p n s st e = cc

ended_unended : {E : Type 0} (n : ℕ) (st : Standing E) → ended_steps n st + unended_steps n st ≡ n
ended_unended n branch = omega arith
ended_unended n (choice m) = omega arith
ended_unended n (leaf e) = omega arith

stopped_pending : {E : Type 0} (p : Path) (st : Standing E) → Stops st → pending p st ≡ []
stopped_pending p branch h = absurd h
stopped_pending p (choice m) h = refl
stopped_pending p (leaf e) h = refl

stopped_unended : {E : Type 0} (n : ℕ) (st : Standing E) → Stops st → unended_steps n st ≡ 0
stopped_unended n branch h = absurd h
stopped_unended n (choice m) h = refl
stopped_unended n (leaf e) h = refl

module _ {S E : Type 0} (M : Machine S E) where
  -- the opening: the alternatives wait if it stands at a choice
  pub held_open : (w : List Path) → ((r : Path) → times r w ≡ times r (children_at [] M.begins)) → Held M [] (leaves_at [] M.begins) w (at [] 0 M.start M.begins) 0
  held_open w bag = record {
    sum = 0 + ended_steps 0 M.begins;
    tally = tally_step M [] 0 M.start M.begins [] w [] 0 (tally_fresh M) opened (λ r. let a = bag r in omega arith);
    steps_are = let a = ended_unended 0 M.begins in omega arith;
    counted = refl;
    here = (refl, refl, refl, opened);
    met = met_fresh M;
    spent = λ e. absurd (at_out [] 0 M.start M.begins e);
  }

  -- a step of any kind; w waited before and v waits after
  pub held_step : (us : List Work) (l : List (Path × E)) (w v : List Path) (p : Path) (n k : ℕ) (s t : S) (st : Standing E) → Held M us l w (at p n s branch) k → M.next s ≡ (t, st) → ((r : Path) → times r v ≡ times r w + times r (children_at p st)) → Held M (us ++ (stepped ∷ [])) (l ++ leaves_at p st) v (at p (n + 1) t st) (k + 1)
  held_step us l w v p n k s t st h e bag =
      let walk : Walks M p (n + 1) t st = onward e h.here.3 in
      let o = told_push us stepped in
      record {
        sum = h.sum + ended_steps (n + 1) st;
        tally = tally_step M p (n + 1) t st w v l h.sum h.tally walk bag;
        steps_are = let a = ended_unended (n + 1) st in let b = h.steps_are in omega arith;
        counted = let a = h.counted in ap (λ (x : ℕ). x + 1) a ∙ sym (ap (λ (x : Told). x.all) o);
        here = (ap (λ (x : Told). x.out) o ∙ h.here.0, ap (λ (x : Told). x.path) o ∙ h.here.1, ap (λ (x : Told). x.edge) o ∙ ap (λ (x : ℕ). x + 1) h.here.2, walk);
        met = met_step M us l p n t st h.met h.here.1 h.here.2 walk;
        spent = λ e. absurd (at_out p (n + 1) t st e);
      }

  -- a step that stays on the branch, one to a choice, and one to a leaf
  pub held_plain : (us : List Work) (l : List (Path × E)) (w : List Path) (p : Path) (n k : ℕ) (s t : S) → Held M us l w (at p n s branch) k → M.next s ≡ (t, branch) → Held M (us ++ (stepped ∷ [])) l w (at p (n + 1) t branch) (k + 1)
  held_plain us l w p n k s t h e =
      let P : List (Path × E) → Type 0 = λ x. Held M (us ++ (stepped ∷ [])) x w (at p (n + 1) t branch) (k + 1) in
      subst P (append-nil l) (held_step us l w w p n k s t branch h e (λ r. omega arith))

  pub held_choice : (us : List Work) (l : List (Path × E)) (w v : List Path) (p : Path) (n k m : ℕ) (s t : S) → Held M us l w (at p n s branch) k → M.next s ≡ (t, choice m) → ((r : Path) → times r v ≡ times r w + times r (children p m)) → Held M (us ++ (stepped ∷ [])) l v (at p (n + 1) t (choice m)) (k + 1)
  held_choice us l w v p n k m s t h e bag =
      let P : List (Path × E) → Type 0 = λ x. Held M (us ++ (stepped ∷ [])) x v (at p (n + 1) t (choice m)) (k + 1) in
      subst P (append-nil l) (held_step us l w v p n k s t (choice m) h e bag)

  pub held_leaf : (us : List Work) (l : List (Path × E)) (w : List Path) (p : Path) (n k : ℕ) (s t : S) (x : E) → Held M us l w (at p n s branch) k → M.next s ≡ (t, leaf x) → Held M (us ++ (stepped ∷ [])) (l ++ ((p, x) ∷ [])) w (at p (n + 1) t (leaf x)) (k + 1)
  held_leaf us l w p n k s t x h e = held_step us l w w p n k s t (leaf x) h e (λ r. omega arith)

  -- entering a waiting branch q: what is loaded has to be the walk's state at the start of q
  pub held_enter : (us : List Work) (l : List (Path × E)) (w v : List Path) (p q : Path) (n k : ℕ) (s t : S) (st : Standing E) → Held M us l w (at p n s st) k → Stops st → Walks M q 0 t branch → ((r : Path) → times r w ≡ delta r q + times r v) → Held M (us ++ (entered q ∷ [])) l v (at q 0 t branch) k
  held_enter us l w v p q n k s t st h halt walk bag =
      let o = told_push us (entered q) in
      let c : Tally M [] w l h.sum = subst (λ (x : List Path). Tally M x w l h.sum) (stopped_pending p st halt) h.tally in
      record {
        sum = h.sum;
        tally = tally_enter M q w v l h.sum c bag;
        steps_are = let a = h.steps_are in let b = stopped_unended n st halt in omega arith;
        counted = h.counted ∙ sym (ap (λ (x : Told). x.all) o);
        here = (ap (λ (x : Told). x.out) o ∙ h.here.0, ap (λ (x : Told). x.path) o, ap (λ (x : Told). x.edge) o, walk);
        met = met_enter M us l q h.met;
        spent = λ e. absurd (at_out q 0 t branch e);
      }

  -- with nothing waiting the search is out
  pub held_exhaust : (us : List Work) (l : List (Path × E)) (p : Path) (n k : ℕ) (s : S) (st : Standing E) → Held M us l [] (at p n s st) k → Stops st → Held M (us ++ (exhausted ∷ [])) l [] out k
  held_exhaust us l p n k s st h halt =
      let o = told_push us exhausted in
      record {
        sum = h.sum;
        tally = subst (λ (x : List Path). Tally M x [] l h.sum) (stopped_pending p st halt) h.tally;
        steps_are = let a = h.steps_are in let b = stopped_unended n st halt in omega arith;
        counted = h.counted ∙ sym (ap (λ (x : Told). x.all) o);
        here = ap (λ (x : Told). x.out) o;
        met = met_exhaust M us l h.met;
        spent = λ e. refl;
      }

  -- once out, all ends were met
  pub held_complete : (us : List Work) (l : List (Path × E)) (w : List Path) (place : Place S E) (k : ℕ) → Held M us l w place k → place ≡ out → Complete M l k
  held_complete us l w place k h e =
      let P : Place S E → Type 0 = λ x. Tally M (under_way x) w l h.sum in
      let Q : List Path → Type 0 = λ x. Tally M [] x l h.sum in
      let a = h.steps_are in
      let b : steps_under_way place ≡ 0 = ap steps_under_way e in
      let s : h.sum ≡ k = omega arith in
      subst (Complete M l) s (tally_complete M l h.sum (subst Q (h.spent e) (subst P e h.tally)))

  -- what is held is an account
  pub held_account : (us : List Work) (l : List (Path × E)) (w : List Path) (place : Place S E) (k : ℕ) → Held M us l w place k → Account M us l w place k
  held_account us l w place k h = record { here = h.here; steps = h.counted; met = h.met; covers = tally_covering M (under_way place) w l h.sum h.tally; none_waits = h.spent; whole = λ e. held_complete us l w place k h e }

  -- where the units say that nothing is left, the search is out
  pub held_out : (us : List Work) (l : List (Path × E)) (w : List Path) (place : Place S E) (k : ℕ) → Held M us l w place k → (told us).out ≡ true → place ≡ out
  held_out us l w place k h e = go place h.here
    where
      go : (x : Place S E) → Here M (told us) x → x ≡ out
      go out d = refl
      go (at p n s st) d = absurd (false≢true (sym d.0 ∙ e))

  -- the bag of a search that keeps each alternative with its state
  abbrev firsts : List (Path × S) → List Path
  firsts w = map (λ (x : Path × S). x.0) w

  alternatives_paths : (p : Path) (s : S) (m : ℕ) → firsts (alternatives M p s m) ≡ children p m
  alternatives_paths p s zero = refl
  alternatives_paths p s (suc m) = map_push (λ (x : Path × S). x.0) (alternatives M p s m) (p ++ (suc m ∷ []), M.pick s (suc m)) ∙ ap (λ (l : List Path). l ++ ((p ++ (suc m ∷ [])) ∷ [])) (alternatives_paths p s m)

  new_waiting_paths : (p : Path) (s : S) (st : Standing E) → firsts (new_waiting M p s st) ≡ children_at p st
  new_waiting_paths p s branch = refl
  new_waiting_paths p s (choice m) = alternatives_paths p s m
  new_waiting_paths p s (leaf e) = refl

  abbrev Ready : Path × S → Type 0
  Ready x = Walks M x.0 0 x.1 branch

  alternatives_ready : (p : Path) (n : ℕ) (s : S) (top : ℕ) → Walks M p n s (choice top) → (m : ℕ) → m ≤ top → AllByRecursion Ready (alternatives M p s m)
  alternatives_ready p n s top w zero l = tt
  alternatives_ready p n s top w (suc m) l = All-push Ready (alternatives M p s m) (p ++ (suc m ∷ []), M.pick s (suc m)) (alternatives_ready p n s top w m (omega arith)) (taken (suc m) (omega arith) l w)

  new_waiting_ready : (p : Path) (n : ℕ) (s : S) (st : Standing E) → Walks M p n s st → AllByRecursion Ready (new_waiting M p s st)
  new_waiting_ready p n s branch w = tt
  new_waiting_ready p n s (choice m) w = alternatives_ready p n s m w m (omega arith)
  new_waiting_ready p n s (leaf e) w = tt

  abbrev Sound : List Work → Search S E → Type 0
  Sound us x = Held M us x.leaves (firsts x.waiting) x.place x.steps × AllByRecursion Ready x.waiting

  bag_more : (p : Path) (t : S) (st : Standing E) (w v : List (Path × S)) → IsPermutation (w ++ new_waiting M p t st) v → (r : Path) → times r (firsts v) ≡ times r (firsts w) + times r (children_at p st)
  bag_more p t st w v sh r =
      times_map_shuffled (λ (x : Path × S). x.0) r (w ++ new_waiting M p t st) v sh
      ∙ ap (times r) (map-append (λ (x : Path × S). x.0) w (new_waiting M p t st))
      ∙ times_append r (firsts w) (firsts (new_waiting M p t st))
      ∙ ap (λ (l : List Path). times r (firsts w) + times r l) (new_waiting_paths p t st)

  pub sound_moves : (us : List Work) (x : Search S E) (u : Work) (y : Search S E) → Sound us x → Moves M x u y → Sound (us ++ (u ∷ [])) y
  sound_moves us x u y h (makes_step {l} {w} {v} {p} {n} {k} {s} {t} {st} e sh) =
      let g = held_step us l (firsts w) (firsts v) p n k s t st h.0 e (bag_more p t st w v sh) in
      (g, all_shuffled Ready (w ++ new_waiting M p t st) v sh (All-append Ready w (new_waiting M p t st) h.1 (new_waiting_ready p (n + 1) t st g.here.3)))
  sound_moves us x u y h (enters {l} {w} {v} {p} {q} {n} {k} {s} {t} {st} halt sh) =
      let a = all_shuffled Ready w ((q, t) ∷ v) sh h.1 in
      (held_enter us l (firsts w) (firsts v) p q n k s t st h.0 halt a.0 (λ r. sym (times_map_shuffled (λ (x : Path × S). x.0) r w ((q, t) ∷ v) sh)), a.1)
  sound_moves us x u y h (runs_out {l} {p} {n} {k} {s} {st} halt) = (held_exhaust us l p n k s st h.0 halt, tt)

  pub sound : (us : List Work) (x : Search S E) → Reached M us x → Sound us x
  sound us x (fresh {w} sh) = (held_open (firsts w) (λ r. bag_more [] M.start M.begins [] w sh r ∙ (omega arith)), all_shuffled Ready (new_waiting M [] M.start M.begins) w sh (new_waiting_ready [] 0 M.start M.begins opened))
  sound us x (more {us = vs} {x = z} u r m) = sound_moves vs z u x (sound vs z r) m

  pub account : (us : List Work) (x : Search S E) → Reached M us x → Account M us x.leaves (firsts x.waiting) x.place x.steps
  account us x r = held_account us x.leaves (firsts x.waiting) x.place x.steps (sound us x r).0

  pub moves : (x : Search S E) → (x.place ≡ out → ⊥) → (u : Work) × (y : Search S E) × Moves M x u y
  moves x d = go x.leaves x.waiting x.place x.steps d
    where
      next_of : (l : List (Path × E)) (w : List (Path × S)) (p : Path) (n : ℕ) (s : S) (st : Standing E) (k : ℕ) → Stops st → (u : Work) × (y : Search S E) × Moves M (record { leaves = l; waiting = w; place = at p n s st; steps = k }) u y
      next_of l [] p n s st k h = (exhausted, _, runs_out h)
      next_of l (a ∷ w) p n s st k h = (entered a.0, _, enters h (IsPermutation-refl (a ∷ w)))

      go : (l : List (Path × E)) (w : List (Path × S)) (place : Place S E) (k : ℕ) → (place ≡ out → ⊥) → (u : Work) × (y : Search S E) × Moves M (record { leaves = l; waiting = w; place = place; steps = k }) u y
      go l w out k d = absurd (d refl)
      go l w (at p n s branch) k d = (stepped, _, makes_step {st = (M.next s).1} refl (IsPermutation-refl (w ++ new_waiting M p (M.next s).0 (M.next s).1)))
      go l w (at p n s (choice m)) k d = next_of l w p n s (choice m) k tt
      go l w (at p n s (leaf e)) k d = next_of l w p n s (leaf e) k tt
