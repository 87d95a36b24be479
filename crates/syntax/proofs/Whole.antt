-- A right reader of whole texts is exact. Assumes nothing.
use Rattle.std.proofs.Common.{◌≡◌, ℕ, ◌⊎◌, ◌↔◌, List, [], ◌∷◌, ◌++◌, sym, refl, ap, ◌∙◌, subst, inl, inr}
use Rattle.syntax.specs.Syntax.{W, fine, flaw, Said, plain, front, Fine, Out, ok, barred, flawed, Reader}
use Rattle.syntax.specs.Good.{Agree, Flawed, verdict, Honest, Good}
use Rattle.syntax.specs.Exact.{Bars, Accepts, Refuses, Faults, Exact}
use Rattle.syntax.proofs.Laws.{verdict_fine}

-- constructors apart
abbrev IsOk : {X : Type 0} → Out X → Type 0
IsOk (ok x r) = Unit {0}
IsOk (barred r) = ⊥
IsOk (flawed n w r) = ⊥

abbrev IsBarred : {X : Type 0} → Out X → Type 0
IsBarred (ok x r) = ⊥
IsBarred (barred r) = Unit {0}
IsBarred (flawed n w r) = ⊥

abbrev left : {X : Type 0} → Out X → List W
left (ok x r) = r
left (barred r) = r
left (flawed n w r) = r

abbrev value_or : {X : Type 0} → X → Out X → X
value_or d (ok x r) = x
value_or d (barred r) = d
value_or d (flawed n w r) = d

abbrev Filled : List W → Type 0
Filled [] = ⊥
Filled (x ∷ s) = Unit {0}

words_assoc : (a b c : List W) → (a ++ b) ++ c ≡ a ++ (b ++ c)
words_assoc [] b c = refl
words_assoc (x ∷ s) b c = ap (λ t. x ∷ t) (words_assoc s b c)

words_nil : (a : List W) → a ++ [] ≡ a
words_nil [] = refl
words_nil (x ∷ s) = ap (λ t. x ∷ t) (words_nil s)

plain_app : (a b : Said) → plain (a ++ b) ≡ plain a ++ plain b
plain_app [] b = refl
plain_app (x ∷ s) b = ap (λ t. x.0 ∷ t) (plain_app s b)

front_plain : (s : Said) (r : List W) → Fine s → front s r ≡ plain s ++ r
front_plain [] r f = refl
front_plain ((w, fine) ∷ s) r f = ap (λ t. w ∷ t) (front_plain s r f)
front_plain ((w, flaw n) ∷ s) r f = absurd f

front_more : (s t : Said) (r : List W) → Fine s → front (s ++ t) r ≡ plain s ++ front t r
front_more [] t r f = refl
front_more ((w, fine) ∷ s) t r f = ap (λ t. w ∷ t) (front_more s t r f)
front_more ((w, flaw n) ∷ s) t r f = absurd f

verdict_more : {X : Type 0} (s t : Said) (r : List W) (o : Out X) → Fine s → verdict (s ++ t) r o ≡ verdict t r o
verdict_more [] t r o f = refl
verdict_more ((w, fine) ∷ s) t r o f = verdict_more s t r o f
verdict_more ((w, flaw n) ∷ s) t r o f = absurd f

flawed_not_fine : (s t : Said) (w : W) (n : ℕ) → Fine (s ++ (w, flaw n) ∷ t) → ⊥
flawed_not_fine [] t w n f = f
flawed_not_fine ((v, fine) ∷ s) t w n f = flawed_not_fine s t w n f
flawed_not_fine ((v, flaw m) ∷ s) t w n f = f

flawed_split : (n : ℕ) (w : W) (s : Said) (r : List W) → Flawed n w s → (p : Said) × (q : Said) × (s ≡ p ++ (w, flaw n) ∷ q) × Fine p × (front s r ≡ plain p ++ w ∷ r)
flawed_split n w [] r f = absurd f
flawed_split n w ((v, fine) ∷ s) r f =
    let (p, q, e, g, h) = flawed_split n w s r f in
    ((v, fine) ∷ p, q, ap (λ t. (v, fine) ∷ t) e, g, ap (λ t. v ∷ t) h)
flawed_split n w ((v, flaw m) ∷ s) r (e, h) = ([], s, (λ i. (h i, flaw (e i)) ∷ s), tt, ap (λ t. t ∷ r) h)

-- all words of a part, the words behind its first flaw being what they are
front_all : (s : Said) → (r : List W) × (front s r ≡ plain s) × (Fine s → r ≡ [])
front_all [] = ([], refl, λ _. refl)
front_all ((w, fine) ∷ s) = let (r, e, h) = front_all s in (r, ap (λ t. w ∷ t) e, h)
front_all ((w, flaw n) ∷ s) = (plain s, refl, λ f. absurd f)

never_barred : {X : Type 0} (s : Said) (r u : List W) (x : X) → verdict s r (ok x r) ≡ barred u → ⊥
never_barred [] r u x e = subst IsOk e tt
never_barred ((w, fine) ∷ s) r u x e = never_barred s r u x e
never_barred ((w, flaw n) ∷ s) r u x e = subst IsBarred (sym e) tt

verdict_left : {X : Type 0} (s : Said) (x : X) → left (verdict s [] (ok x [])) ≡ []
verdict_left [] x = refl
verdict_left ((w, fine) ∷ s) x = verdict_left s x
verdict_left ((w, flaw n) ∷ s) x = refl

filled_app : (m : List W) (w : W) (t : List W) → m ++ w ∷ t ≡ [] → ⊥
filled_app [] w t e = subst Filled e tt
filled_app (x ∷ m) w t e = subst Filled e tt

no_flaw_before : {X : Type 0} (t : Said) (x : X) (n : ℕ) (v : W) (m : List W) → verdict t [] (ok x []) ≡ flawed n v (m ++ front t []) → ⊥
no_flaw_before [] x n v m e = subst IsOk e tt
no_flaw_before (y ∷ t) x n v m e = filled_app m y.0 _ (sym (ap left e) ∙ verdict_left (y ∷ t) x)

abbrev head_or : W → List W → W
head_or d [] = d
head_or d (x ∷ s) = x

abbrev tail_of : List W → List W
tail_of [] = []
tail_of (x ∷ s) = s

-- two ways to part the same words
part_ways : (a b c d : List W) → a ++ b ≡ c ++ d → ((m : List W) × (c ≡ a ++ m) × (b ≡ m ++ d)) ⊎ ((w : W) × (m : List W) × (a ≡ c ++ w ∷ m) × (d ≡ w ∷ m ++ b))
part_ways [] b c d e = inl (c, refl, e)
part_ways (x ∷ a) b [] d e = inr (x, a, refl, sym e)
part_ways (x ∷ a) b (y ∷ c) d e = go (part_ways a b c d (ap tail_of e))
  where
    same : x ≡ y
    same = ap (head_or x) e

    go : ((m : List W) × (c ≡ a ++ m) × (b ≡ m ++ d)) ⊎ ((w : W) × (m : List W) × (a ≡ c ++ w ∷ m) × (d ≡ w ∷ m ++ b)) → ((m : List W) × (y ∷ c ≡ x ∷ a ++ m) × (b ≡ m ++ d)) ⊎ ((w : W) × (m : List W) × (x ∷ a ≡ y ∷ c ++ w ∷ m) × (d ≡ w ∷ m ++ b))
    go (inl (m, f, g)) = inl (m, (λ i. sym same i ∷ f i), g)
    go (inr (w, m, f, g)) = inr (w, m, (λ i. same i ∷ f i), g)

module _ {X : Type 0} {R : Reader X} {say : X → Said} {S : X → List W → Type 0} (good : Good R say S) (stop : (x : X) (r : List W) → (Fine (say x) → r ≡ []) → S x r) (ending : (x : X) (r : List W) → Fine (say x) → S x r → r ≡ []) where
  reads_part : (x : X) (r : List W) → (Fine (say x) → r ≡ []) → R (front (say x) r) ≡ verdict (say x) r (ok x r)
  reads_part x r h = good.reads x r (stop x r h)

  honest_at : (ws : List W) (o : Out X) → R ws ≡ o → Honest R say S ws o
  honest_at ws o e = subst (Honest R say S ws) e (good.honest ws)

  whole_whole : (ws : List W) (x : X) (r : List W) → R ws ≡ ok x r → r ≡ []
  whole_whole ws x r e = let (f, h, s) = honest_at ws (ok x r) e in ending x r f s

  whole_accepts : (ws : List W) (x : X) → (R ws ≡ ok x []) ↔ Accepts say ws x
  whole_accepts ws x = (
    (λ e. let (f, h, s) = honest_at ws (ok x []) e in (sym (h ∙ front_plain (say x) [] f ∙ words_nil (plain (say x))), f)),
    (λ a. ap R (sym (front_plain (say x) [] a.1 ∙ words_nil (plain (say x)) ∙ a.0)) ∙ reads_part x [] (λ _. refl) ∙ verdict_fine (say x) [] (ok x []) a.1),
  )

  to_faults : (ws : List W) (n : ℕ) (w : W) (r : List W) → R ws ≡ flawed n w r → Faults say ws n w r
  to_faults ws n w r e =
      let (x, f, h) = honest_at ws (flawed n w r) e in
      let (p, q, d, g, k) = flawed_split n w (say x) r f in
      (x, p, q, d, g, h ∙ k)

  from_faults : (ws : List W) (n : ℕ) (w : W) (r : List W) → Faults say ws n w r → R ws ≡ flawed n w r
  from_faults ws n w r (x, s, t, d, f, e) =
      ap R (e ∙ sym (front_more s ((w, flaw n) ∷ t) r f) ∙ ap (λ z. front z r) (sym d))
      ∙ reads_part x r (λ g. absurd (flawed_not_fine s t w n (subst Fine d g)))
      ∙ ap (λ z. verdict z r (ok x r)) d
      ∙ verdict_more s ((w, flaw n) ∷ t) r (ok x r) f

  not_barred : (x : X) (u : List W) → R (plain (say x)) ≡ barred u → ⊥
  not_barred x u e = let (r, h, k) = front_all (say x) in never_barred (say x) r u x (sym (reads_part x r k) ∙ ap R h ∙ e)

  to_refuses : (ws r : List W) → R ws ≡ barred r → Refuses say ws r
  to_refuses ws r e = go r (honest_at ws (barred r) e)
    where
      bars : (r : List W) (p : Said) → Fine p → ((u : List W) → Agree r u → R (front p u) ≡ barred u) → Bars say (plain p) r
      bars [] p f loc = λ y h. not_barred y [] (ap R (h ∙ sym (words_nil (plain p)) ∙ sym (front_plain p [] f)) ∙ loc [] refl)
      bars (w ∷ r) p f loc = λ y t h. not_barred y (w ∷ t) (ap R (h ∙ sym (front_plain p (w ∷ t) f)) ∙ loc (w ∷ t) (t, refl))

      go : (r : List W) → Honest R say S ws (barred r) → Refuses say ws r
      go r (x, p, q, d, f, h, loc) = (plain p, h ∙ front_plain p r f, (x, p, q, d, f, refl), bars r p f loc)

  -- what a book without faults so far goes on with is neither barred nor faulty before
  opens_reads : (x : X) (s t : Said) → say x ≡ s ++ t → Fine s → R (plain s ++ front t []) ≡ verdict t [] (ok x [])
  opens_reads x s t d f = ap R (sym (front_more s t [] f) ∙ ap (λ z. front z []) (sym d)) ∙ reads_part x [] (λ _. refl) ∙ ap (λ z. verdict z [] (ok x [])) d ∙ verdict_more s t [] (ok x []) f

  bars_not : (p r : List W) (x : X) → Bars say p r → plain (say x) ≡ p ++ r → ⊥
  bars_not p [] x b e = b x (e ∙ words_nil p)
  bars_not p (w ∷ r) x b e = b x r e

  bars_start : (p r : List W) (x : X) (w : W) (m u t : List W) → Bars say p r → r ≡ w ∷ m ++ u → plain (say x) ≡ p ++ w ∷ t → ⊥
  bars_start p r x w m u t b e h = (subst (Bars say p) e b) x t h

  from_refuses : (ws r : List W) → Refuses say ws r → R ws ≡ barred r
  from_refuses ws r (p, e, (y, s, t, d, f, c), b) = go (R ws) refl
    where
      at_flaw : (n : ℕ) (v : W) (u : List W) → R ws ≡ flawed n v u → Faults say ws n v u → R ws ≡ barred r
      at_flaw n v u k (x, s', t', d', f', e') = cases (part_ways (plain s') (v ∷ u) p r (sym e' ∙ e))
        where
          said : plain (say x) ≡ plain s' ++ v ∷ plain t'
          said = ap plain d' ∙ plain_app s' ((v, flaw n) ∷ t')

          inside : (m : List W) → p ≡ plain s' ++ m → v ∷ u ≡ m ++ r → R ws ≡ barred r
          inside [] h g = absurd (bars_start p r x v [] u (plain t') b (sym g) (said ∙ ap (λ z. z ++ v ∷ plain t') (sym (h ∙ words_nil (plain s')))))
          inside (a ∷ m) h g =
              let av : v ≡ a = ap (head_or v) g in
              let pv : p ≡ plain s' ++ v ∷ m = h ∙ ap (λ z. plain s' ++ z ∷ m) (sym av) in
              absurd (no_flaw_before t y n v m (sym (opens_reads y s t d f) ∙ from_faults (plain s ++ front t []) n v (m ++ front t []) (x, s', t', d', f', ap (λ z. z ++ front t []) (sym c ∙ pv) ∙ words_assoc (plain s') (v ∷ m) (front t []))))

          cases : ((m : List W) × (p ≡ plain s' ++ m) × (v ∷ u ≡ m ++ r)) ⊎ ((w : W) × (m : List W) × (plain s' ≡ p ++ w ∷ m) × (r ≡ w ∷ m ++ v ∷ u)) → R ws ≡ barred r
          cases (inl (m, h, g)) = inside m h g
          cases (inr (w, m, h, g)) = absurd (bars_start p r x w m (v ∷ u) (m ++ v ∷ plain t') b g (said ∙ ap (λ z. z ++ v ∷ plain t') h ∙ words_assoc p (w ∷ m) (v ∷ plain t')))

      at_bar : (u : List W) → R ws ≡ barred u → Honest R say S ws (barred u) → R ws ≡ barred r
      at_bar u k (x, s', t', d', f', e', loc) = cases (part_ways (plain s') u p r (sym (front_plain s' u f') ∙ sym e' ∙ e))
        where
          said : plain (say x) ≡ plain s' ++ plain t'
          said = ap plain d' ∙ plain_app s' t'

          inside : (m : List W) → p ≡ plain s' ++ m → u ≡ m ++ r → R ws ≡ barred r
          inside [] h g = k ∙ ap barred g
          inside (a ∷ m) h g =
              absurd (never_barred t [] (a ∷ m ++ front t []) y (sym (opens_reads y s t d f) ∙ ap R (ap (λ z. z ++ front t []) (sym c ∙ h) ∙ words_assoc (plain s') (a ∷ m) (front t []) ∙ sym (front_plain s' (a ∷ m ++ front t []) f')) ∙ loc (a ∷ m ++ front t []) (subst (λ z. Agree z (a ∷ m ++ front t [])) (sym g) (m ++ front t [], refl))))

          cases : ((m : List W) × (p ≡ plain s' ++ m) × (u ≡ m ++ r)) ⊎ ((w : W) × (m : List W) × (plain s' ≡ p ++ w ∷ m) × (r ≡ w ∷ m ++ u)) → R ws ≡ barred r
          cases (inl (m, h, g)) = inside m h g
          cases (inr (w, m, h, g)) = absurd (bars_start p r x w m u (m ++ plain t') b g (said ∙ ap (λ z. z ++ plain t') h ∙ words_assoc p (w ∷ m) (plain t')))

      go : (o : Out X) → R ws ≡ o → R ws ≡ barred r
      go (ok x u) k = absurd (bars_not p r x b (((whole_accepts ws x).0 (k ∙ ap (ok x) (whole_whole ws x u k))).0 ∙ e))
      go (flawed n v u) k = at_flaw n v u k (to_faults ws n v u k)
      go (barred u) k = at_bar u k (honest_at ws (barred u) k)

  whole_unique : (ws : List W) (x y : X) → Accepts say ws x → Accepts say ws y → x ≡ y
  whole_unique ws x y a b = ap (value_or x) (sym ((whole_accepts ws x).1 a) ∙ (whole_accepts ws y).1 b)

  whole_decided : (ws : List W) (o : Out X) → R ws ≡ o → ((x : X) × Accepts say ws x) ⊎ (((r : List W) × Refuses say ws r) ⊎ ((n : ℕ) × (w : W) × (r : List W) × Faults say ws n w r))
  whole_decided ws (ok x r) e = inl (x, (whole_accepts ws x).0 (e ∙ ap (ok x) (whole_whole ws x r e)))
  whole_decided ws (barred r) e = inr (inl (r, to_refuses ws r e))
  whole_decided ws (flawed n w r) e = inr (inr (n, w, r, to_faults ws n w r e))

  pub exact : (ws : List W) → Exact R say ws
  exact ws = record {
    unique = whole_unique ws;
    decided = whole_decided ws (R ws) refl;
    whole = whole_whole ws;
    accepts = whole_accepts ws;
    refuses = λ r. (to_refuses ws r, from_refuses ws r);
    faults = λ n w r. (to_faults ws n w r, from_faults ws n w r);
  }
