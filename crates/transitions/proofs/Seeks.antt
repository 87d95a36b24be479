-- The search for partners: what it finds is the first run through the heads that is good, and none if there is none. Assumes nothing.
use Rattle.std.proofs.Common.{◌≡◌, ℕ, suc, ◌<◌, Bool, true, false, ◌⊎◌, List, [], ◌∷◌, ◌++◌, Some, None, Option, sym, refl, ap, ◌∙◌, subst, inl, inr, arith}
use Rattle.steps.specs.Program.{Pattern}
use Rattle.steps.specs.State.{Stored, Bindings}
use Rattle.steps.specs.Matching.{match_head, Combination, may_stand, joined, with_fact, first_given, seek}
use Rattle.steps.specs.Relations.{In, here, there, identifiers, Before}
use Rattle.transitions.specs.Sound.{Rising}
use Rattle.transitions.proofs.Basics.{after_some, some_same, no_some, every_in, no_before, before_parts, one_fact}
use Rattle.transitions.proofs.Matches.{given_yes, given_is}

-- facts for heads from h on, each of which may stand there and matches
pub data Run (store : List Stored) (act place : ℕ) : ℕ → List Pattern → Combination → List Stored → Combination → Type 0 where
  ended : {h : ℕ} {c : Combination} → Run store act place h [] c [] c
  went : {h : ℕ} {p : Pattern} {ps : List Pattern} {c e : Combination} {f : Stored} {fs : List Stored} (bs : Bindings) → In f store →
      may_stand act place h c.identifiers f.identifier ≡ true → match_head c.bindings p f.fact ≡ Some bs →
      Run store act place (suc h) ps (record { identifiers = c.identifiers ++ (f.identifier ∷ []); bindings = bs }) fs e → Run store act place h (p ∷ ps) c (f ∷ fs) e

-- the first fact that gives something
first_some : {Y : Type 0} (g : Stored → Option Y) (y : Y) (S : List Stored) → Rising S → first_given g S ≡ Some y →
    (f : Stored) × In f S × (g f ≡ Some y) × ((k : Stored) → In k S → k.identifier < f.identifier → g k ≡ None)
first_some g y [] r e = no_some e
first_some {Y} g y (x ∷ S) r e = at (λ q. first_some g y S r.1 q) (g x) refl e
  where
    Found : List Stored → Type 0
    Found T = (f : Stored) × In f T × (g f ≡ Some y) × ((k : Stored) → In k T → k.identifier < f.identifier → g k ≡ None)

    later : g x ≡ None → Found S → Found (x ∷ S)
    later n w = (w.0, there w.1, w.2, before)
      where
        before : (k : Stored) → In k (x ∷ S) → k.identifier < w.0.identifier → g k ≡ None
        before k here l = n
        before k (there m) l = w.3 k m l

    none : (k : Stored) → In k (x ∷ S) → k.identifier < x.identifier → g k ≡ None
    none k here l = absurd (omega arith)
    none k (there m) l = absurd (let h = every_in r.0 m in omega arith)

    at : (first_given g S ≡ Some y → Found S) → (o : Option Y) → g x ≡ o → elim o [ None ↦ first_given g S | Some z ↦ Some z ] ≡ Some y → Found (x ∷ S)
    at f None n e = later n (f e)
    at f (Some z) n e = (x, here, n ∙ e, none)

first_none : {Y : Type 0} (g : Stored → Option Y) (S : List Stored) → first_given g S ≡ None → (k : Stored) → In k S → g k ≡ None
first_none g [] e k m = elim m [ ]
first_none {Y} g (x ∷ S) e k m = at (λ q. first_none g S q) (g x) refl e k m
  where
    at : (first_given g S ≡ None → (k : Stored) → In k S → g k ≡ None) → (o : Option Y) → g x ≡ o → ◌≡◌ {A = Option Y} (elim o [ None ↦ first_given g S | Some z ↦ Some z ]) None → (k : Stored) → In k (x ∷ S) → g k ≡ None
    at f None n e k here = n
    at f None n e k (there m) = f e k m
    at f (Some z) n e k m = no_some (sym e)

-- a fact that stands and matches is joined
pub joins : (act place h : ℕ) (p : Pattern) (c : Combination) (f : Stored) (bs : Bindings) → may_stand act place h c.identifiers f.identifier ≡ true → match_head c.bindings p f.fact ≡ Some bs →
    with_fact act place h p c f ≡ Some (record { identifiers = c.identifiers ++ (f.identifier ∷ []); bindings = bs })
joins act place h p c f bs m e = at (may_stand act place h c.identifiers f.identifier) (match_head c.bindings p f.fact) m e
  where
    at : (t : Bool) (o : Option Bindings) → t ≡ true → o ≡ Some bs → ◌≡◌ {A = Option Combination} (elim t [ true ↦ joined c f.identifier o | false ↦ None ]) (Some (record { identifiers = c.identifiers ++ (f.identifier ∷ []); bindings = bs }))
    at t o m e = rw (m, e)

pub joined_by : (act place h : ℕ) (p : Pattern) (c d : Combination) (f : Stored) → with_fact act place h p c f ≡ Some d →
    (may_stand act place h c.identifiers f.identifier ≡ true) × (match_head c.bindings p f.fact ≡ Some d.bindings) × (record { identifiers = c.identifiers ++ (f.identifier ∷ []); bindings = d.bindings } ≡ d)
joined_by act place h p c d f e = at (may_stand act place h c.identifiers f.identifier) (match_head c.bindings p f.fact) refl refl e
  where
    at : (t : Bool) (o : Option Bindings) → may_stand act place h c.identifiers f.identifier ≡ t → match_head c.bindings p f.fact ≡ o → elim t [ true ↦ joined c f.identifier o | false ↦ None ] ≡ Some d →
        (may_stand act place h c.identifiers f.identifier ≡ true) × (match_head c.bindings p f.fact ≡ Some d.bindings) × (record { identifiers = c.identifiers ++ (f.identifier ∷ []); bindings = d.bindings } ≡ d)
    at true None m e q = no_some q
    at true (Some bs) m e q =
        let j : Combination = record { identifiers = c.identifiers ++ (f.identifier ∷ []); bindings = bs } in
        let s : j ≡ d = some_same q in
        let b : bs ≡ d.bindings = ap (λ (z : Combination). z.bindings) s in
        (m, e ∙ ap (λ (z : Bindings). Some z) b, ap (λ (z : Bindings). record { identifiers = c.identifiers ++ (f.identifier ∷ []); bindings = z }) (sym b) ∙ s)
    at false o m e q = no_some q

-- one run is determined by its facts
pub one_run : {store : List Stored} {act place h : ℕ} {ps : List Pattern} {c d e : Combination} {fs : List Stored} → Run store act place h ps c fs d → Run store act place h ps c fs e → d ≡ e
one_run ended ended = refl
one_run {store} {act} {place} (went {h = h} {ps = ps} {c = c} {f = f} {fs = fs} bs i m u a) (went {e = e} cs j n v b) = one_run a (subst (λ (z : Bindings). Run store act place (suc h) ps (record { identifiers = c.identifiers ++ (f.identifier ∷ []); bindings = z }) fs e) (some_same (sym v ∙ u)) b)

module _ (good : Combination → Bool) (store : List Stored) (act place : ℕ) (rising : Rising store) where
  -- what goes on from a fact at head h
  from : ℕ → Pattern → List Pattern → Combination → Stored → Option Combination
  from h p ps c f = elim (with_fact act place h p c f) [ None ↦ None | Some d ↦ seek good store act place (suc h) ps d ]

  pub seek_none : {h : ℕ} {ps : List Pattern} {c d : Combination} {gs : List Stored} → Run store act place h ps c gs d → seek good store act place h ps c ≡ None → good d ≡ true → ⊥
  unfolding from
  seek_none (ended {c = c}) e t = no_some (sym e ∙ given_is (good c) c t)
  seek_none (went {h = h} {p = p} {ps = ps} {c = c} {f = f} bs i m w r) e t =
      let n : from h p ps c f ≡ None = first_none (from h p ps c) store e f i in
      let j = joins act place h p c f bs m w in
      seek_none r (sym (after_some (with_fact act place h p c f) (λ d. seek good store act place (suc h) ps d) j) ∙ n) t

  -- the first good run
  abbrev pub First : ℕ → List Pattern → Combination → Combination → List Stored → Type 0
  First h ps c e fs = Run store act place h ps c fs e × (good e ≡ true) × ((gs : List Stored) (d : Combination) → Run store act place h ps c gs d → good d ≡ true → Before (identifiers gs) (identifiers fs) → ⊥)

  -- the first run on from a fact, with no good run on from a fact of a lower identifier
  first_from : (h : ℕ) (p : Pattern) (ps : List Pattern) (c e : Combination) (f : Stored) (fs : List Stored) (bs : Bindings) → In f store →
      may_stand act place h c.identifiers f.identifier ≡ true → match_head c.bindings p f.fact ≡ Some bs →
      ((k : Stored) → In k store → k.identifier < f.identifier → from h p ps c k ≡ None) →
      First (suc h) ps (record { identifiers = c.identifiers ++ (f.identifier ∷ []); bindings = bs }) e fs → First h (p ∷ ps) c e (f ∷ fs)
  unfolding from
  first_from h p ps c e f fs bs i m w low r = (went bs i m w r.0, r.1, none)
    where
      none : (gs : List Stored) (d : Combination) → Run store act place h (p ∷ ps) c gs d → good d ≡ true → Before (identifiers gs) (f.identifier ∷ identifiers fs) → ⊥
      none gs d (went {f = k} {fs = ks} cs j n v q) t b = at (before_parts b)
        where
          at : (k.identifier < f.identifier) ⊎ ((k.identifier ≡ f.identifier) × Before (identifiers ks) (identifiers fs)) → ⊥
          at (inl l) =
              let z : from h p ps c k ≡ None = low k j l in
              seek_none q (sym (after_some (with_fact act place h p c k) (λ d. seek good store act place (suc h) ps d) (joins act place h p c k cs n v)) ∙ z) t
          at (inr l) =
              let s : k ≡ f = one_fact rising j i l.0 in
              let x : cs ≡ bs = some_same (sym v ∙ ap (λ (z : Stored). match_head c.bindings p z.fact) s ∙ w) in
              let y : record { identifiers = c.identifiers ++ (k.identifier ∷ []); bindings = cs } ≡ record { identifiers = c.identifiers ++ (f.identifier ∷ []); bindings = bs } = cc in
              r.2 ks d (subst (λ (z : Combination). Run store act place (suc h) ps z ks d) y q) t l.1

  pub seek_some : (ps : List Pattern) (h : ℕ) (c e : Combination) → seek good store act place h ps c ≡ Some e → (fs : List Stored) × First h ps c e fs
  unfolding from
  seek_some [] h c e q =
      let g = given_yes (good c) c e q in
      subst (λ (z : Combination). (fs : List Stored) × First h [] c z fs) g.1 ([], (ended, g.0, λ gs d r t b. no_before b))
  seek_some (p ∷ ps) h c e q =
      let w = first_some (from h p ps c) e store rising q in
      at w.0 w.1 w.3 (λ d. seek_some ps (suc h) d e) (with_fact act place h p c w.0) refl w.2
    where
      at : (f : Stored) → In f store → ((k : Stored) → In k store → k.identifier < f.identifier → from h p ps c k ≡ None) → ((d : Combination) → seek good store act place (suc h) ps d ≡ Some e → (fs : List Stored) × First (suc h) ps d e fs) →
          (o : Option Combination) → with_fact act place h p c f ≡ o → elim o [ None ↦ None | Some d ↦ seek good store act place (suc h) ps d ] ≡ Some e → (fs : List Stored) × First h (p ∷ ps) c e fs
      at f i low rest None n q = no_some q
      at f i low rest (Some d) n q =
          let j = joined_by act place h p c d f n in
          let r = rest d q in
          let r' = subst (λ (z : Combination). First (suc h) ps z e r.0) (sym j.2) r.1 in
          (f ∷ r.0, first_from h p ps c e f r.0 d.bindings i j.0 j.1 low r')
