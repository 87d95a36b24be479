-- The units of a search, one more at the end.
use Rattle.std.proofs.Common.{◌≡◌, ℕ, ◌+◌, false, List, [], ◌∷◌, ◌++◌, fold, sym, refl, ap, ◌∙◌, subst}
use Rattle.std.proofs.lemmas.List.Sums.{fold_push}
use Rattle.std.proofs.lemmas.List.{append_assoc, append-nil}
use Rattle.tree.specs.Walks.{Path, Standing, Machine, Walks}
use Rattle.tree.specs.Searches.{Work, stepped, entered, exhausted, Told, after, told, leaves_at, Meets, Met}
use Rattle.tree.proofs.Fronts.{determined}

pub told_push : (us : List Work) (u : Work) → told (us ++ (u ∷ [])) ≡ after (told us) u
told_push us u = fold_push after (record { path = []; edge = 0; all = 0; out = false }) us u

module _ {S E : Type 0} (M : Machine S E) where
  -- the units go on from t; one more unit keeps what was met before it
  meets_push : (u : Work) (more : List (Path × E)) (t : Told) (us : List Work) (l : List (Path × E)) → Meets M t.path t.edge us l → Meets M (fold after t us).path (fold after t us).edge (u ∷ []) more → Meets M t.path t.edge (us ++ (u ∷ [])) (l ++ more)
  meets_push u more t [] l m h = subst (λ (x : List (Path × E)). Meets M t.path t.edge (u ∷ []) (x ++ more)) (sym m) h
  meets_push u more t (stepped ∷ us) l m h =
      (m.0, m.1, m.2 ++ more, m.3, ap (λ (x : List (Path × E)). x ++ more) m.4 ∙ append_assoc (leaves_at t.path m.1) m.2 more, meets_push u more (after t stepped) us m.2 m.5 h)
  meets_push u more t (entered q ∷ us) l m h = meets_push u more (after t (entered q)) us l m h
  meets_push u more t (exhausted ∷ us) l m h = meets_push u more (after t exhausted) us l m h

  met_push : (u : Work) (more : List (Path × E)) (us : List Work) (l : List (Path × E)) → Met M us l → Meets M (told us).path (told us).edge (u ∷ []) more → Met M (us ++ (u ∷ [])) (l ++ more)
  met_push u more us l m h =
      (m.0 ++ more, ap (λ (x : List (Path × E)). x ++ more) m.1 ∙ append_assoc (leaves_at [] M.begins) m.0 more, meets_push u more (record { path = []; edge = 0; all = 0; out = false }) us m.0 m.2 h)

  pub met_fresh : Met M [] (leaves_at [] M.begins)
  met_fresh = ([], sym (append-nil (leaves_at [] M.begins)), refl)

  pub met_step : (us : List Work) (l : List (Path × E)) (p : Path) (n : ℕ) (s : S) (st : Standing E) → Met M us l → (told us).path ≡ p → (told us).edge ≡ n → Walks M p (n + 1) s st → Met M (us ++ (stepped ∷ [])) (l ++ leaves_at p st)
  met_step us l p n s st m a b w =
      let W : Path → ℕ → Type 0 = λ q k. Walks M q (k + 1) s st in
      let v : Walks M (told us).path ((told us).edge + 1) s st = subst (λ (q : Path). W q (told us).edge) (sym a) (subst (W p) (sym b) w) in
      met_push stepped (leaves_at p st) us l m (s, st, [], v, ap (λ (q : Path). leaves_at q st) (sym a) ∙ sym (append-nil (leaves_at (told us).path st)), refl)

  pub met_enter : (us : List Work) (l : List (Path × E)) (q : Path) → Met M us l → Met M (us ++ (entered q ∷ [])) l
  met_enter us l q m = subst (Met M (us ++ (entered q ∷ []))) (append-nil l) (met_push (entered q) [] us l m refl)

  pub met_exhaust : (us : List Work) (l : List (Path × E)) → Met M us l → Met M (us ++ (exhausted ∷ [])) l
  met_exhaust us l m = subst (Met M (us ++ (exhausted ∷ []))) (append-nil l) (met_push exhausted [] us l m refl)

  meets_once : (p : Path) (n : ℕ) (us : List Work) (k l : List (Path × E)) → Meets M p n us k → Meets M p n us l → k ≡ l
  meets_once p n [] k l a b = a ∙ sym b
  meets_once p n (stepped ∷ us) k l a b =
      let d = determined {M = M} p (n + 1) a.0 b.0 a.1 b.1 a.3 b.3 in
      let r = meets_once p (n + 1) us a.2 b.2 a.5 b.5 in
      a.4 ∙ ap (λ (x : Standing E). leaves_at p x ++ a.2) d.1 ∙ ap (λ (x : List (Path × E)). leaves_at p b.1 ++ x) r ∙ sym b.4
  meets_once p n (entered q ∷ us) k l a b = meets_once q 0 us k l a b
  meets_once p n (exhausted ∷ us) k l a b = meets_once p n us k l a b

  pub met_once : (us : List Work) (k l : List (Path × E)) → Met M us k → Met M us l → k ≡ l
  met_once us k l a b = a.1 ∙ ap (λ (x : List (Path × E)). leaves_at [] M.begins ++ x) (meets_once [] 0 us a.0 b.0 a.2 b.2) ∙ sym b.1
