-- Heads that match facts: the bindings computed are those that the match forces. Assumes nothing.
use Rattle.std.proofs.Common.{◌≡◌, ℕ, ◌<◌, Bool, true, false, eqb, ◌⊎◌, List, [], ◌∷◌, length, get_or, set, Some, None, Option, sym, refl, ap, ◌∙◌, subst, inl, inr, arith, length-set}
use Rattle.std.proofs.lemmas.Bool.{eqb-true, eq-eqb, cases_eq}
use Rattle.std.proofs.lemmas.List.{get_or-set_same, get_or-set_other, ext_get_or}
use Rattle.parse.specs.Model.{Term}
use Rattle.parse.specs.Model as term
use Rattle.steps.specs.Program.{Pattern}
use Rattle.steps.specs.State.{Value, number, cell, Stored, Bindings}
use Rattle.steps.specs.Matching.{same_value, given, match_term, match_terms, match_head}
use Rattle.steps.specs.Relations.{In, here, there, Each, each_none, each_more, Fits, same_number, same_cell, has_value, Matches, InHeads}
use Rattle.transitions.proofs.Basics.{after_some, some_same, no_some, each_in, each_map}
use Rattle.transitions.proofs.Values.{same_yes, same_refl}

-- what one has a value for, the other has it too
abbrev pub Extends : Bindings → Bindings → Type 0
Extends bs cs = (i : ℕ) (v : Value) → get_or bs i None ≡ Some v → get_or cs i None ≡ Some v

-- bindings that took on values, of these variables alone
pub record Grown (V : ℕ → Type 0) (bs cs : Bindings) : Type 0 where
  pub keeps : Extends bs cs
  pub long : length cs ≡ length bs
  pub only : (i : ℕ) (v : Value) → get_or cs i None ≡ Some v → (get_or bs i None ≡ Some v) ⊎ V i

pub still : (V : ℕ → Type 0) (bs : Bindings) → Grown V bs bs
still V bs = record { keeps = λ i v e. e; long = refl; only = λ i v e. inl e }

pub further : (U V W : ℕ → Type 0) (bs cs ds : Bindings) → ((i : ℕ) → U i → W i) → ((i : ℕ) → V i → W i) → Grown U bs cs → Grown V cs ds → Grown W bs ds
further U V W bs cs ds f g a b = record {
  keeps = λ i v e. b.keeps i v (a.keeps i v e);
  long = b.long ∙ a.long;
  only = λ i v e. at i v (b.only i v e);
}
  where
    first : (i : ℕ) (v : Value) → (get_or bs i None ≡ Some v) ⊎ U i → (get_or bs i None ≡ Some v) ⊎ W i
    first i v (inl e) = inl e
    first i v (inr u) = inr (f i u)

    at : (i : ℕ) (v : Value) → (get_or cs i None ≡ Some v) ⊎ V i → (get_or bs i None ≡ Some v) ⊎ W i
    at i v (inl e) = first i v (a.only i v e)
    at i v (inr u) = inr (g i u)

pub given_yes : {X : Type 0} (b : Bool) (x y : X) → given b x ≡ Some y → (b ≡ true) × (x ≡ y)
given_yes true x y e = (refl, some_same e)
given_yes false x y e = no_some e

pub given_is : {X : Type 0} (b : Bool) (x : X) → b ≡ true → given b x ≡ Some x
given_is b x e = rw e

-- a term

pub record Took (bs cs : Bindings) (t : Term) (v : Value) : Type 0 where
  pub fits : Fits cs t v
  pub grown : Grown (λ i. t ≡ term.variable i) bs cs

-- its variable is below a number
abbrev pub Below : ℕ → Term → Type 0
Below n (term.number m) = Unit {0}
Below n (term.cell k) = Unit {0}
Below n (term.variable i) = i < n
Below n (term.sum i m) = Unit {0}

pub took : (bs cs : Bindings) (t : Term) (v : Value) → Below (length bs) t → match_term bs t v ≡ Some cs → Took bs cs t v
took bs cs (term.number n) v b e =
    let g = given_yes (same_value (number n) v) bs cs e in
    let q : number n ≡ v = same_yes (number n) v g.0 in
    subst (λ (ds : Bindings). Took bs ds (term.number n) v) g.1 (subst (Took bs bs (term.number n)) q (record { fits = same_number n; grown = still _ bs }))
took bs cs (term.cell k) v b e =
    let g = given_yes (same_value (cell k) v) bs cs e in
    let q : cell k ≡ v = same_yes (cell k) v g.0 in
    subst (λ (ds : Bindings). Took bs ds (term.cell k) v) g.1 (subst (Took bs bs (term.cell k)) q (record { fits = same_cell k; grown = still _ bs }))
took bs cs (term.variable i) v b e = at (get_or bs i None) refl e
  where
    fresh : get_or bs i None ≡ None → Took bs (set bs i (Some v)) (term.variable i) v
    fresh n = record {
      fits = has_value i v (get_or-set_same bs i (Some v) None b);
      grown = record { keeps = keep; long = length-set bs i (Some v); only = just };
    }
      where
        keep : Extends bs (set bs i (Some v))
        keep j w h = by (cases_eq j i)
          where
            by : (j ≡ i) ⊎ (j ≡ i → ⊥) → get_or (set bs i (Some v)) j None ≡ Some w
            by (inl q) = no_some (sym n ∙ subst (λ (k : ℕ). get_or bs k None ≡ Some w) q h)
            by (inr q) = get_or-set_other bs i j (Some v) None q ∙ h

        just : (j : ℕ) (w : Value) → get_or (set bs i (Some v)) j None ≡ Some w → (get_or bs j None ≡ Some w) ⊎ (term.variable i ≡ term.variable j)
        just j w h = by (cases_eq j i)
          where
            by : (j ≡ i) ⊎ (j ≡ i → ⊥) → (get_or bs j None ≡ Some w) ⊎ (term.variable i ≡ term.variable j)
            by (inl q) = inr (ap (λ (k : ℕ). term.variable k) (sym q))
            by (inr q) = inl (sym (get_or-set_other bs i j (Some v) None q) ∙ h)

    at : (o : Option Value) → get_or bs i None ≡ o → elim o [ None ↦ Some (set bs i (Some v)) | Some w ↦ given (same_value w v) bs ] ≡ Some cs → Took bs cs (term.variable i) v
    at None n e = subst (λ (ds : Bindings). Took bs ds (term.variable i) v) (some_same e) (fresh n)
    at (Some w) n e =
        let g = given_yes (same_value w v) bs cs e in
        let q : w ≡ v = same_yes w v g.0 in
        subst (λ (ds : Bindings). Took bs ds (term.variable i) v) g.1 (record { fits = has_value i v (n ∙ ap (λ (u : Value). Some u) q); grown = still _ bs })
took bs cs (term.sum i n) v b e = no_some e

pub takes : (bs θ : Bindings) (t : Term) (v : Value) → Below (length bs) t → Extends bs θ → Fits θ t v → (cs : Bindings) × (match_term bs t v ≡ Some cs) × Extends cs θ
takes bs θ t v b x (same_number n) = (bs, given_is (same_value (number n) (number n)) bs (same_refl (number n)), x)
takes bs θ t v b x (same_cell k) = (bs, given_is (same_value (cell k) (cell k)) bs (same_refl (cell k)), x)
takes bs θ t v b x (has_value i w h) = at (get_or bs i None) refl
  where
    at : (o : Option Value) → get_or bs i None ≡ o → (cs : Bindings) × (elim o [ None ↦ Some (set bs i (Some v)) | Some w ↦ given (same_value w v) bs ] ≡ Some cs) × Extends cs θ
    at None n = (set bs i (Some v), refl, λ j w g. by j w g (cases_eq j i))
      where
        by : (j : ℕ) (w : Value) → get_or (set bs i (Some v)) j None ≡ Some w → (j ≡ i) ⊎ (j ≡ i → ⊥) → get_or θ j None ≡ Some w
        by j w g (inl q) =
            let same : Some v ≡ Some w = sym (get_or-set_same bs i (Some v) None b) ∙ subst (λ (k : ℕ). get_or (set bs i (Some v)) k None ≡ Some w) q g in
            subst (λ (k : ℕ). get_or θ k None ≡ Some w) (sym q) (h ∙ same)
        by j w g (inr q) = x j w (sym (get_or-set_other bs i j (Some v) None q) ∙ g)
    at (Some w) n =
        let q : w ≡ v = some_same (sym (x i w n) ∙ h) in
        (bs, given_is (same_value w v) bs (subst (λ (u : Value). same_value w u ≡ true) q (same_refl w)), x)

pub fits_more : {bs cs : Bindings} → Extends bs cs → (t : Term) (v : Value) → Fits bs t v → Fits cs t v
fits_more x t v (same_number n) = same_number n
fits_more x t v (same_cell k) = same_cell k
fits_more x t v (has_value i w e) = has_value i w (x i w e)

-- all arguments

-- their variables are below a number
abbrev pub AllBelow : ℕ → List Term → Type 0
AllBelow n ts = (i : ℕ) → In (term.variable i) ts → i < n

first_below : (n : ℕ) (t : Term) (ts : List Term) → AllBelow n (t ∷ ts) → Below n t
first_below n (term.number m) ts b = tt
first_below n (term.cell k) ts b = tt
first_below n (term.variable i) ts b = b i here
first_below n (term.sum i m) ts b = tt

first_variable : (t : Term) (ts : List Term) (i : ℕ) → t ≡ term.variable i → In (term.variable i) (t ∷ ts)
first_variable t ts i e = subst (λ (u : Term). In u (t ∷ ts)) e here

pub record AllTook (bs cs : Bindings) (ts : List Term) (vs : List Value) : Type 0 where
  pub fits : Each (Fits cs) ts vs
  pub grown : Grown (λ i. In (term.variable i) ts) bs cs

pub all_took : (bs cs : Bindings) (ts : List Term) (vs : List Value) → AllBelow (length bs) ts → match_terms bs ts vs ≡ Some cs → AllTook bs cs ts vs
all_took bs cs [] [] b e = subst (λ (ds : Bindings). AllTook bs ds [] []) (some_same e) (record { fits = each_none; grown = still _ bs })
all_took bs cs [] (v ∷ vs) b e = no_some e
all_took bs cs (t ∷ ts) [] b e = no_some e
all_took bs cs (t ∷ ts) (v ∷ vs) b e = at (λ ds. all_took ds cs ts vs) (match_term bs t v) refl e
  where
    more : (ds : Bindings) → Took bs ds t v → AllTook ds cs ts vs → AllTook bs cs (t ∷ ts) (v ∷ vs)
    more ds a r = record {
      fits = each_more (fits_more r.grown.keeps t v a.fits) r.fits;
      grown = further _ _ (λ i. In (term.variable i) (t ∷ ts)) bs ds cs (λ i q. first_variable t ts i q) (λ i m. there m) a.grown r.grown;
    }

    at : ((ds : Bindings) → AllBelow (length ds) ts → match_terms ds ts vs ≡ Some cs → AllTook ds cs ts vs) → (o : Option Bindings) → match_term bs t v ≡ o → elim o [ None ↦ None | Some ds ↦ match_terms ds ts vs ] ≡ Some cs → AllTook bs cs (t ∷ ts) (v ∷ vs)
    at f None m e = no_some e
    at f (Some ds) m e =
        let a : Took bs ds t v = took bs ds t v (first_below (length bs) t ts b) m in
        more ds a (f ds (λ i n. let h = b i (there n) in let l = a.grown.long in omega arith) e)

pub all_takes : (θ bs : Bindings) (ts : List Term) (vs : List Value) → AllBelow (length bs) ts → Extends bs θ → Each (Fits θ) ts vs → (cs : Bindings) × (match_terms bs ts vs ≡ Some cs) × Extends cs θ
all_takes θ bs ts vs b x each_none = (bs, refl, x)
all_takes θ bs ts vs b x (each_more {x = t} {y = v} {xs = us} {ys = ws} f fs) =
    let a = takes bs θ t v (first_below (length bs) t us b) x f in
    let ds : Bindings = a.0 in
    let k : Took bs ds t v = took bs ds t v (first_below (length bs) t us b) a.1 in
    let r = all_takes θ ds us ws (λ i n. let h = b i (there n) in let l = k.grown.long in omega arith) a.2 fs in
    (r.0, after_some (match_term bs t v) (λ cs. match_terms cs us ws) a.1 ∙ r.1, r.2)

-- a head

-- the variables of heads are below a number
abbrev pub HeadsBelow : ℕ → List Pattern → Type 0
HeadsBelow n ps = (i : ℕ) → InHeads i ps → i < n

pub head_below : (n : ℕ) (p : Pattern) (ps : List Pattern) → HeadsBelow n (p ∷ ps) → AllBelow n p.arguments
head_below n p ps b i m = b i (p, here, m)

pub in_later : (p : Pattern) (ps : List Pattern) (i : ℕ) → InHeads i ps → InHeads i (p ∷ ps)
in_later p ps i h = (h.0, there h.1, h.2)

pub record HeadTook (bs cs : Bindings) (p : Pattern) (f : Stored) : Type 0 where
  pub matches : Matches cs p f
  pub grown : Grown (λ i. In (term.variable i) p.arguments) bs cs

pub head_took : (bs cs : Bindings) (p : Pattern) (f : Stored) → AllBelow (length bs) p.arguments → match_head bs p f.fact ≡ Some cs → HeadTook bs cs p f
head_took bs cs p f b e = at (eqb p.predicate f.fact.predicate) refl e
  where
    at : (t : Bool) → eqb p.predicate f.fact.predicate ≡ t → elim t [ true ↦ match_terms bs p.arguments f.fact.arguments | false ↦ None ] ≡ Some cs → HeadTook bs cs p f
    at true q e =
        let a = all_took bs cs p.arguments f.fact.arguments b e in
        record { matches = record { predicate = eqb-true p.predicate f.fact.predicate q; arguments = a.fits }; grown = a.grown }
    at false q e = no_some e

pub head_takes : (bs θ : Bindings) (p : Pattern) (f : Stored) → AllBelow (length bs) p.arguments → Extends bs θ → Matches θ p f → (cs : Bindings) × (match_head bs p f.fact ≡ Some cs) × Extends cs θ
head_takes bs θ p f b x m =
    let a = all_takes θ bs p.arguments f.fact.arguments b x m.arguments in
    (a.0, at (eqb p.predicate f.fact.predicate) (eq-eqb p.predicate f.fact.predicate m.predicate) a.1, a.2)
  where
    at : (t : Bool) → t ≡ true → {o r : Option Bindings} → o ≡ r → elim t [ true ↦ o | false ↦ None ] ≡ r
    at t e q = rw (e, q)

pub matches_more : {bs cs : Bindings} → Extends bs cs → (p : Pattern) (f : Stored) → Matches bs p f → Matches cs p f
matches_more x p f m = record { predicate = m.predicate; arguments = each_map (λ t v h. fits_more x t v h) m.arguments }

-- bindings with the same values are equal
same_options : (a b : Option Value) → ((v : Value) → a ≡ Some v → b ≡ Some v) → ((v : Value) → b ≡ Some v → a ≡ Some v) → a ≡ b
same_options None None f g = refl
same_options None (Some v) f g = g v refl
same_options (Some v) b f g = sym (f v refl)

pub same_bindings : (bs cs : Bindings) → length bs ≡ length cs → Extends bs cs → Extends cs bs → bs ≡ cs
same_bindings bs cs l x y = ext_get_or None bs cs l (λ i h. same_options (get_or bs i None) (get_or cs i None) (λ v e. x i v e) (λ v e. y i v e))

-- a variable of a head that matches has a value
pub value_at : (θ : Bindings) (ps : List Pattern) (fs : List Stored) → Each (Matches θ) ps fs → (i : ℕ) → InHeads i ps → (v : Value) × (get_or θ i None ≡ Some v)
value_at θ ps fs ms i h =
    let m = each_in ms h.1 in
    let a = each_in m.1.arguments h.2 in
    (a.0, has a.1)
  where
    has : {i : ℕ} {v : Value} → Fits θ (term.variable i) v → get_or θ i None ≡ Some v
    has (has_value i v e) = e
