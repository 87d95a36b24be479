-- Lists of names: which stand in them, how many are different, and the variables of heads as they join. Assumes nothing.
use Rattle.std.proofs.Common.{◌≡◌, ℕ, suc, ◌≤◌, Bool, true, false, cond, eqb, ltb, ◌⊎◌, ◌↔◌, List, [], ◌∷◌, ◌++◌, length, sym, refl, ap, ◌∙◌, subst, inl, inr, arith, length-append}
use Rattle.std.proofs.lemmas.Bool.{eqb-true, eq-eqb, and_parts, and_from, or_cases, or_left, or_right, ltb-true, lt-ltb, false≢true, both_ways}
use Rattle.syntax.specs.Syntax.{fine, flaw, FineBy}
use Rattle.syntax.specs.Grammar.{same_name, among, binding, bound, var_note, joined}
use Rattle.syntax.specs.Limits.{In, Within, Differ, AtMostSix}

abbrev Name : Type 0
Name = List ℕ

-- two names are the same exactly if the test says so
pub same_true : (a b : Name) → same_name a b ≡ true → a ≡ b
same_true [] [] h = refl
same_true [] (y ∷ b) h = absurd (false≢true h)
same_true (x ∷ a) [] h = absurd (false≢true h)
same_true (x ∷ a) (y ∷ b) h = let p = and_parts (eqb x y) (same_name a b) h in λ i. eqb-true x y p.0 i ∷ same_true a b p.1 i

same_self : (a : Name) → same_name a a ≡ true
same_self [] = refl
same_self (x ∷ a) = and_from (eqb x x) (same_name a a) (eq-eqb x x refl) (same_self a)

pub true_same : (a b : Name) → a ≡ b → same_name a b ≡ true
true_same a b e = subst (λ z. same_name a z ≡ true) e (same_self a)

pub among_in : (ns : List Name) (v : Name) → among ns v ≡ true → In v ns
among_in [] v h = absurd (false≢true h)
among_in (n ∷ ns) v h = go (or_cases (same_name n v) (among ns v) h) (among_in ns v)
  where
    go : (same_name n v ≡ true) ⊎ (among ns v ≡ true) → (among ns v ≡ true → In v ns) → In v (n ∷ ns)
    go (inl e) rec = inl (same_true n v e)
    go (inr e) rec = inr (rec e)

pub in_among : (ns : List Name) (v : Name) → In v ns → among ns v ≡ true
in_among [] v h = absurd h
in_among (n ∷ ns) v (inl e) = or_left (same_name n v) (among ns v) (true_same n v e)
in_among (n ∷ ns) v (inr h) = or_right (same_name n v) (among ns v) (in_among ns v h)

-- what stands in two lists together
pub in_left : (a b : List Name) (v : Name) → In v a → In v (a ++ b)
in_left [] b v h = absurd h
in_left (n ∷ a) b v (inl e) = inl e
in_left (n ∷ a) b v (inr h) = inr (in_left a b v h)

pub in_right : (a b : List Name) (v : Name) → In v b → In v (a ++ b)
in_right [] b v h = h
in_right (n ∷ a) b v h = inr (in_right a b v h)

pub in_cases : (a b : List Name) (v : Name) → In v (a ++ b) → In v a ⊎ In v b
in_cases [] b v h = inr h
in_cases (n ∷ a) b v (inl e) = inl (inl e)
in_cases (n ∷ a) b v (inr h) = go (in_cases a b v h)
  where
    go : In v a ⊎ In v b → In v (n ∷ a) ⊎ In v b
    go (inl i) = inl (inr i)
    go (inr i) = inr i

in_one : (n v : Name) → In v (n ∷ []) → n ≡ v
in_one n v (inl e) = e
in_one n v (inr h) = absurd h

pub differ_more : (a : List Name) (v : Name) → Differ a → (In v a → ⊥) → Differ (a ++ v ∷ [])
differ_more [] v d h = ((λ i. i), tt)
differ_more (n ∷ a) v (k, d) h = ((λ i. go (in_cases a (v ∷ []) n i)), differ_more a v d (λ i. h (inr i)))
  where
    go : In n a ⊎ In n (v ∷ []) → ⊥
    go (inl i) = k i
    go (inr i) = h (inl (sym (in_one v n i)))

pub within_all : (ns ms : List Name) → ((v : Name) → In v ns → In v ms) → Within ns ms
within_all [] ms h = tt
within_all (n ∷ ns) ms h = (h n (inl refl), within_all ns ms (λ v i. h v (inr i)))

pub all_within : (ns ms : List Name) → Within ns ms → (v : Name) → In v ns → In v ms
all_within [] ms w v i = absurd i
all_within (n ∷ ns) ms (h, w) v (inl e) = subst (λ z. In z ms) e h
all_within (n ∷ ns) ms (h, w) v (inr i) = all_within ns ms w v i

-- different names that all stand in a list are not more than it has
parted : (ms : List Name) (v : Name) → In v ms → (p : List Name) × (q : List Name) × (ms ≡ p ++ v ∷ q)
parted [] v h = absurd h
parted (n ∷ ms) v (inl e) = ([], ms, ap (λ z. z ∷ ms) e)
parted (n ∷ ms) v (inr h) = let (p, q, e) = parted ms v h in (n ∷ p, q, ap (λ z. n ∷ z) e)

not_it : (p q : List Name) (v n : Name) → In v (p ++ n ∷ q) → (n ≡ v → ⊥) → In v (p ++ q)
not_it p q v n i h = go (in_cases p (n ∷ q) v i)
  where
    go : In v p ⊎ In v (n ∷ q) → In v (p ++ q)
    go (inl i) = in_left p q v i
    go (inr (inl e)) = absurd (h e)
    go (inr (inr i)) = in_right p q v i

pub not_more : (ns ms : List Name) → Differ ns → ((v : Name) → In v ns → In v ms) → length ns ≤ length ms
not_more [] ms d w = omega arith
not_more (n ∷ ns) ms (k, d) w =
    let (p, q, e) = parted ms n (w n (inl refl)) in
    let rest : length ns ≤ length (p ++ q) = not_more ns (p ++ q) d (λ v i. not_it p q v n (subst (In v) e (w v (inr i))) (λ s. k (subst (λ z. In z ns) (sym s) i))) in
    omega (arith, rest, ap length e, length-append p q, length-append p (n ∷ q))

-- the names us join those of vs, each once
abbrev pub adds : List Name → List Name → List Name
adds vs [] = vs
adds vs (v ∷ us) = adds (joined vs v) us

pub adds_app : (vs a b : List Name) → adds vs (a ++ b) ≡ adds (adds vs a) b
adds_app vs [] b = refl
adds_app vs (v ∷ a) b = adds_app (joined vs v) a b

joined_by : (vs : List Name) (v : Name) (P : List Name → Type 0) → (among vs v ≡ true → P vs) → (among vs v ≡ false → P (vs ++ v ∷ [])) → P (joined vs v)
joined_by vs v P h k = go (among vs v) refl
  where
    go : (t : Bool) → among vs v ≡ t → P (cond t vs (vs ++ v ∷ []))
    go true e = h e
    go false e = k e

new : (vs : List Name) (v : Name) → among vs v ≡ false → In v vs → ⊥
new vs v e i = both_ways (among vs v) e (in_among vs v i)

pub adds_differ : (vs us : List Name) → Differ vs → Differ (adds vs us)
adds_differ vs [] d = d
adds_differ vs (v ∷ us) d = adds_differ (joined vs v) us (joined_by vs v Differ (λ e. d) (λ e. differ_more vs v d (new vs v e)))

joined_old : (vs : List Name) (v n : Name) → In n vs → In n (joined vs v)
joined_old vs v n i = joined_by vs v (In n) (λ e. i) (λ e. in_left vs (v ∷ []) n i)

joined_new : (vs : List Name) (v : Name) → In v (joined vs v)
joined_new vs v = joined_by vs v (In v) (λ e. among_in vs v e) (λ e. in_right vs (v ∷ []) v (inl refl))

joined_cases : (vs : List Name) (v n : Name) → In n (joined vs v) → In n vs ⊎ (v ≡ n)
joined_cases vs v n = joined_by vs v (λ z. In n z → In n vs ⊎ (v ≡ n)) (λ e i. inl i) (λ e i. go (in_cases vs (v ∷ []) n i))
  where
    go : In n vs ⊎ In n (v ∷ []) → In n vs ⊎ (v ≡ n)
    go (inl i) = inl i
    go (inr i) = inr (in_one v n i)

pub adds_old : (vs us : List Name) (n : Name) → In n vs → In n (adds vs us)
adds_old vs [] n i = i
adds_old vs (v ∷ us) n i = adds_old (joined vs v) us n (joined_old vs v n i)

pub adds_new : (vs us : List Name) (n : Name) → In n us → In n (adds vs us)
adds_new vs [] n i = absurd i
adds_new vs (v ∷ us) n (inl e) = adds_old (joined vs v) us n (subst (λ z. In z (joined vs v)) e (joined_new vs v))
adds_new vs (v ∷ us) n (inr i) = adds_new (joined vs v) us n i

pub adds_cases : (vs us : List Name) (n : Name) → In n (adds vs us) → In n vs ⊎ In n us
adds_cases vs [] n i = inl i
adds_cases vs (v ∷ us) n i = go (adds_cases (joined vs v) us n i)
  where
    old : In n vs ⊎ (v ≡ n) → In n vs ⊎ In n (v ∷ us)
    old (inl i) = inl i
    old (inr e) = inr (inl e)

    go : In n (joined vs v) ⊎ In n us → In n vs ⊎ In n (v ∷ us)
    go (inl i) = old (joined_cases vs v n i)
    go (inr i) = inr (inr i)

in_none : (us : List Name) (n : Name) → In n [] ⊎ In n us → In n us
in_none us n (inl i) = absurd i
in_none us n (inr i) = i

-- each of the names us may join as it comes
abbrev pub Room : List Name → List Name → Type 0
Room vs [] = Unit {0}
Room vs (v ∷ us) = FineBy (var_note (binding vs) v) (Unit {0}) × Room (joined vs v) us

pub room_app : (vs a b : List Name) → Room vs (a ++ b) ↔ (Room vs a × Room (adds vs a) b)
room_app vs [] b = ((λ r. (tt, r)), (λ r. r.1))
room_app vs (v ∷ a) b = let e = room_app (joined vs v) a b in ((λ (f, r). let (x, y) = e.0 r in ((f, x), y)), (λ ((f, x), y). (f, e.1 (x, y))))

more_by_one : (vs : List Name) (v : Name) → length (vs ++ v ∷ []) ≡ suc (length vs)
more_by_one vs v = let e = length-append vs (v ∷ []) in omega (arith, e)

room_six : (vs us : List Name) → length vs ≤ 6 → Room vs us → length (adds vs us) ≤ 6
room_six vs [] h r = h
room_six vs (v ∷ us) h (f, r) = room_six (joined vs v) us (go (among vs v) (ltb (length vs) 6) refl refl f) r
  where
    go : (t s : Bool) → among vs v ≡ t → ltb (length vs) 6 ≡ s → FineBy (cond t fine (cond s fine (flaw 5))) (Unit {0}) → length (cond t vs (vs ++ v ∷ [])) ≤ 6
    go true s e k f = h
    go false true e k f = omega (arith, ltb-true (length vs) 6 k, more_by_one vs v)
    go false false e k f = absurd f

joined_length : (vs : List Name) (v : Name) → length vs ≤ length (joined vs v)
joined_length vs v = joined_by vs v (λ z. length vs ≤ length z) (λ e. omega arith) (λ e. omega (arith, more_by_one vs v))

adds_length : (vs us : List Name) → length vs ≤ length (adds vs us)
adds_length vs [] = omega arith
adds_length vs (v ∷ us) = omega (arith, joined_length vs v, adds_length (joined vs v) us)

six_room : (vs us : List Name) → length (adds vs us) ≤ 6 → Room vs us
six_room vs [] h = tt
six_room vs (v ∷ us) h = (go (among vs v) refl, six_room (joined vs v) us h)
  where
    joins : among vs v ≡ false → ltb (length vs) 6 ≡ true
    joins e =
        let j : length (joined vs v) ≡ suc (length vs) = ap (λ t. length (cond t vs (vs ++ v ∷ []))) e ∙ more_by_one vs v in
        lt-ltb (length vs) 6 (omega (arith, j, adds_length (joined vs v) us, h))

    go : (t : Bool) → among vs v ≡ t → FineBy (cond t fine (cond (ltb (length vs) 6) fine (flaw 5))) (Unit {0})
    go true e = tt
    go false e = subst (λ s. FineBy (cond s fine (flaw 5)) (Unit {0})) (sym (joins e)) tt

-- there is room for all exactly if at most 6 are different
pub room_exact : (us : List Name) → Room [] us ↔ AtMostSix us
room_exact us = (
  (λ r ns d w. let a = not_more ns (adds [] us) d (λ v i. adds_new [] us v (all_within ns us w v i)) in let b = room_six [] us (omega arith) r in omega (arith, a, b)),
  (λ h. six_room [] us (h (adds [] us) (adds_differ [] us tt) (within_all (adds [] us) us (λ v i. in_none us v (adds_cases [] us v i))))),
)

-- behind the arrow a variable is without fault exactly if it stands in a head
pub known_exact : (us : List Name) (v : Name) → FineBy (var_note (bound (adds [] us)) v) (Unit {0}) ↔ In v us
known_exact us v = ((λ f. in_none us v (adds_cases [] us v (among_in vs v (forth (among vs v) (ltb (length vs) 6) f)))), (λ i. subst (λ t. FineBy (cond t fine (cond (ltb (length vs) 6) (flaw 6) (flaw 5))) (Unit {0})) (sym (in_among vs v (adds_new [] us v i))) tt))
  where
    vs : List Name
    vs = adds [] us

    forth : (t s : Bool) → FineBy (cond t fine (cond s (flaw 6) (flaw 5))) (Unit {0}) → t ≡ true
    forth true s f = refl
    forth false true f = absurd f
    forth false false f = absurd f
