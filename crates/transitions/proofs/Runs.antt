-- Runs through the heads, and what a combination asks of its facts. Assumes nothing.
use Rattle.std.proofs.Common.{◌≡◌, ℕ, zero, suc, ◌+◌, ◌<◌, ◌≤◌, Bool, true, false, not, ◌&&◌, eqb, ◌⊎◌, List, [], ◌∷◌, ◌++◌, length, get_or, sym, refl, ◌∙◌, subst, inl, inr, append_assoc, append-nil, arith}
use Rattle.std.proofs.lemmas.Bool.{true≢false, and_parts, and_from, eqb-true, eq-eqb, eqb-false, ne_eqb, cases_Bool, not-true, not_from_false}
use Rattle.steps.specs.Program.{Pattern}
use Rattle.steps.specs.State.{Stored, Bindings}
use Rattle.steps.specs.Matching.{among, Combination, may_stand}
use Rattle.steps.specs.Relations.{In, here, there, Every, every_none, every_more, Each, each_none, each_more, identifiers, Matches, InHeads, Distinct, distinct_none, distinct_more}
use Rattle.transitions.proofs.Basics.{among_in, in_among, in_front, in_back, in_either, in_one}
use Rattle.transitions.proofs.Matches.{Extends, Grown, still, further, HeadsBelow, head_below, in_later, head_took, head_takes, matches_more, HeadTook}
use Rattle.transitions.proofs.Seeks.{Run, ended, went}

-- identifiers that may stand at the heads from h on
abbrev pub Stands : ℕ → ℕ → ℕ → List ℕ → List ℕ → Type 0
Stands act place h taken [] = Unit {0}
Stands act place h taken (i ∷ is) = (may_stand act place h taken i ≡ true) × Stands act place (suc h) (taken ++ (i ∷ [])) is

-- where the active fact is: at one of the heads to come, or taken
pub data Lies (act place h : ℕ) (taken is : List ℕ) : Type 0 where
  ahead : (k : ℕ) → h + k ≡ place → k < length is → get_or is k 0 ≡ act → Lies act place h taken is
  behind : place < h → In act taken → Lies act place h taken is

-- one that may stand: the active one at its place, or another that is not taken
data May (act place h : ℕ) (taken : List ℕ) (i : ℕ) : Type 0 where
  active_one : h ≡ place → i ≡ act → May act place h taken i
  another : (h ≡ place → ⊥) → (i ≡ act → ⊥) → (In i taken → ⊥) → May act place h taken i

may : (act place h : ℕ) (taken : List ℕ) (i : ℕ) → may_stand act place h taken i ≡ true → May act place h taken i
may act place h taken i e = at (eqb h place) refl e
  where
    at : (b : Bool) → eqb h place ≡ b → elim b [ true ↦ eqb i act | false ↦ not (eqb i act) && not (among i taken) ] ≡ true → May act place h taken i
    at true q e = active_one (eqb-true h place q) (eqb-true i act e)
    at false q e =
        let p = and_parts (not (eqb i act)) (not (among i taken)) e in
        another (eqb-false h place q) (eqb-false i act (not-true (eqb i act) p.0)) (λ m. true≢false (sym (in_among i taken m) ∙ not-true (among i taken) p.1))

not_in : (i : ℕ) (taken : List ℕ) → (In i taken → ⊥) → among i taken ≡ false
not_in i taken f = at (cases_Bool (among i taken))
  where
    at : (among i taken ≡ true) ⊎ (among i taken ≡ false) → among i taken ≡ false
    at (inl a) = absurd (f (among_in i taken a))
    at (inr b) = b

may_yes : (act place h : ℕ) (taken : List ℕ) (i : ℕ) → May act place h taken i → may_stand act place h taken i ≡ true
may_yes act place h taken i (active_one p q) = at (eqb h place) (eq-eqb h place p)
  where
    at : (b : Bool) → b ≡ true → elim b [ true ↦ eqb i act | false ↦ not (eqb i act) && not (among i taken) ] ≡ true
    at b e = rw e (eq-eqb i act q)
may_yes act place h taken i (another p q r) = at (eqb h place) (ne_eqb h place p)
  where
    at : (b : Bool) → b ≡ false → elim b [ true ↦ eqb i act | false ↦ not (eqb i act) && not (among i taken) ] ≡ true
    at b e = rw e (and_from (not (eqb i act)) (not (among i taken)) (not_from_false (eqb i act) (ne_eqb i act q)) (not_from_false (among i taken) (not_in i taken r)))

-- none taken again, no two equal, and the active one at its place
pub record Apart (act place h : ℕ) (taken is : List ℕ) : Type 0 where
  pub distinct : Distinct is
  pub new : (i : ℕ) → In i is → In i taken → ⊥
  pub fixed : (k : ℕ) → h + k ≡ place → k < length is → get_or is k 0 ≡ act

pub apart : (act place h : ℕ) (taken is : List ℕ) → (h ≤ place → In act taken → ⊥) → Stands act place h taken is → Apart act place h taken is
apart act place h taken [] free s = record { distinct = distinct_none; new = λ i m. elim m [ ]; fixed = λ k e l. absurd (omega arith) }
apart act place h taken (i ∷ is) free s = at (may act place h taken i s.0) (λ g. apart act place (suc h) (taken ++ (i ∷ [])) is g s.1)
  where
    fresh : May act place h taken i → In i taken → ⊥
    fresh (active_one p q) m = free (omega arith) (subst (λ (z : ℕ). In z taken) q m)
    fresh (another p q r) m = r m

    first : May act place h taken i → h ≡ place → i ≡ act
    first (active_one p q) e = q
    first (another p q r) e = absurd (p e)

    free' : May act place h taken i → suc h ≤ place → In act (taken ++ (i ∷ [])) → ⊥
    free' (active_one p q) l m = absurd (omega arith)
    free' (another p q r) l m = by (in_either taken m)
      where
        by : In act taken ⊎ In act (i ∷ []) → ⊥
        by (inl a) = free (omega arith) a
        by (inr b) = q (sym (in_one b))

    fix : May act place h taken i → Apart act place (suc h) (taken ++ (i ∷ [])) is → (k : ℕ) → h + k ≡ place → k < length (i ∷ is) → get_or (i ∷ is) k 0 ≡ act
    fix w r zero e l = first w (omega arith)
    fix w r (suc k) e l = r.fixed k (omega arith) (omega arith)

    at : May act place h taken i → ((suc h ≤ place → In act (taken ++ (i ∷ [])) → ⊥) → Apart act place (suc h) (taken ++ (i ∷ [])) is) → Apart act place h taken (i ∷ is)
    at w f = let r = f (free' w) in record { distinct = distinct_more (λ m. r.new i m (in_back taken here)) r.distinct; new = news r; fixed = fix w r }
      where
        news : Apart act place (suc h) (taken ++ (i ∷ [])) is → (j : ℕ) → In j (i ∷ is) → In j taken → ⊥
        news r j here m = fresh w m
        news r j (there n) m = r.new j n (in_front (i ∷ []) m)

in_getD : (is : List ℕ) (k d : ℕ) → k < length is → In (get_or is k d) is
in_getD [] k d l = absurd (omega arith)
in_getD (i ∷ is) zero d l = here
in_getD (i ∷ is) (suc k) d l = there (in_getD is k d (omega arith))

pub standing : (act place h : ℕ) (taken is : List ℕ) → Distinct is → ((i : ℕ) → In i is → In i taken → ⊥) → Lies act place h taken is → Stands act place h taken is
standing act place h taken [] d n w = tt
standing act place h taken (i ∷ is) (distinct_more x d) n w =
    (may_yes act place h taken i (one w), standing act place (suc h) (taken ++ (i ∷ [])) is d (λ j m t. new j m (in_either taken t)) (next w))
  where
    one : Lies act place h taken (i ∷ is) → May act place h taken i
    one (ahead zero e l g) = active_one (omega arith) g
    one (ahead (suc k) e l g) = another (λ q. absurd (omega arith)) (λ q. x (subst (λ (z : ℕ). In z is) (g ∙ sym q) (in_getD is k 0 (omega arith)))) (λ m. n i here m)
    one (behind l m) = another (λ q. absurd (omega arith)) (λ q. n i here (subst (λ (z : ℕ). In z taken) (sym q) m)) (λ m. n i here m)

    next : Lies act place h taken (i ∷ is) → Lies act place (suc h) (taken ++ (i ∷ [])) is
    next (ahead zero e l g) = behind (omega arith) (subst (λ (z : ℕ). In z (taken ++ (i ∷ []))) g (in_back taken here))
    next (ahead (suc k) e l g) = ahead k (omega arith) (omega arith) g
    next (behind l m) = behind (omega arith) (in_front (i ∷ []) m)

    new : (j : ℕ) → In j is → In j taken ⊎ In j (i ∷ []) → ⊥
    new j m (inl t) = n j (there m) t
    new j m (inr t) = x (subst (λ (z : ℕ). In z is) (in_one t) m)

-- what a run says of its facts
pub record Parts (store : List Stored) (act place h : ℕ) (ps : List Pattern) (c : Combination) (fs : List Stored) (e : Combination) : Type 0 where
  pub told : e.identifiers ≡ c.identifiers ++ identifiers fs
  pub grown : Grown (λ i. InHeads i ps) c.bindings e.bindings
  pub matches : Each (Matches e.bindings) ps fs
  pub present : Every (λ f. In f store) fs
  pub stands : Stands act place h c.identifiers (identifiers fs)

pub parts : {store : List Stored} {act place h : ℕ} {ps : List Pattern} {c e : Combination} {fs : List Stored} → Run store act place h ps c fs e → HeadsBelow (length c.bindings) ps → Parts store act place h ps c fs e
parts (ended {c = c}) b = record { told = sym (append-nil c.identifiers); grown = still _ c.bindings; matches = each_none; present = every_none; stands = tt }
parts {e = e} (went {h = h} {p = p} {ps = ps} {c = c} {f = f} {fs = fs} bs i m w r) b =
    let a : HeadTook c.bindings bs p f = head_took c.bindings bs p f (head_below (length c.bindings) p ps b) w in
    let k = parts r (λ j n. let l = b j (in_later p ps j n) in let q = a.grown.long in omega arith) in
    record {
      told = k.told ∙ append_assoc c.identifiers (f.identifier ∷ []) (identifiers fs);
      grown = further _ _ (λ j. InHeads j (p ∷ ps)) c.bindings bs e.bindings (λ j n. (p, here, n)) (λ j n. in_later p ps j n) a.grown k.grown;
      matches = each_more (matches_more k.grown.keeps p f a.matches) k.matches;
      present = every_more i k.present;
      stands = (m, k.stands);
    }

-- facts that match under some bindings are run through
pub run_for : (store : List Stored) (act place : ℕ) (θ : Bindings) (h : ℕ) (ps : List Pattern) (c : Combination) (fs : List Stored) → HeadsBelow (length c.bindings) ps → Extends c.bindings θ →
    Each (Matches θ) ps fs → Every (λ f. In f store) fs → Stands act place h c.identifiers (identifiers fs) → (e : Combination) × Run store act place h ps c fs e × Extends e.bindings θ
run_for store act place θ h ps c fs b x each_none every_none s = (c, ended, x)
run_for store act place θ h ps c fs b x (each_more {x = p} {y = f} {xs = qs} {ys = gs} m ms) (every_more i is) s =
    let a = head_takes c.bindings θ p f (head_below (length c.bindings) p qs b) x m in
    let bs : Bindings = a.0 in
    let k : HeadTook c.bindings bs p f = head_took c.bindings bs p f (head_below (length c.bindings) p qs b) a.1 in
    let r = run_for store act place θ (suc h) qs (record { identifiers = c.identifiers ++ (f.identifier ∷ []); bindings = bs }) gs
    (λ j n. let l = b j (in_later p qs j n) in let q = k.grown.long in omega arith) a.2 ms is s.1 in
    (r.0, went bs i s.0 a.1 r.1, r.2)
