-- Options, lists and the dictionary order. Assumes nothing.
use Rattle.std.proofs.Common.{◌≡◌, ℕ, suc, ◌<◌, true, eqb, ◌⊎◌, List, [], ◌∷◌, ◌++◌, length, Some, None, Ok, Err, Option, Result, refl, ap, subst, inl, inr, arith}
use Rattle.std.proofs.lemmas.Bool.{false≢true, eqb-true, eq-eqb, or_cases, or_left, or_right, cases_order}
use Rattle.steps.specs.State.{Stored}
use Rattle.steps.specs.Matching.{among}
use Rattle.steps.specs.Relations.{In, here, there, Every, every_none, every_more, Each, each_none, each_more, identifiers, Before, now, later}
use Rattle.transitions.specs.Sound.{Rising}

pub some_same : {X : Type 0} {a b : X} → ◌≡◌ {A = Option X} (Some a) (Some b) → a ≡ b
some_same e = cc

pub no_some : {X Y : Type 0} {a : X} → ◌≡◌ {A = Option X} None (Some a) → Y
no_some e = let z : ◌≡◌ {A = ℕ} 0 1 = cc in absurd (omega arith)

pub ok_same : {X E : Type 0} {a b : X} → ◌≡◌ {A = Result X E} (Ok a) (Ok b) → a ≡ b
ok_same e = cc

pub err_same : {X E : Type 0} {a b : E} → ◌≡◌ {A = Result X E} (Err a) (Err b) → a ≡ b
err_same e = cc

pub no_ok : {X E Y : Type 0} {a : X} {c : E} → ◌≡◌ {A = Result X E} (Err c) (Ok a) → Y
no_ok e = let z : ◌≡◌ {A = ℕ} 0 1 = cc in absurd (omega arith)

pub after_some : {X Y : Type 0} (o : Option X) (f : X → Option Y) {x : X} → o ≡ Some x → elim o [ None ↦ None | Some y ↦ f y ] ≡ f x
after_some o f e = rw e

-- elements
pub every_in : {X : Type 0} {Q : X → Type 0} {x : X} {xs : List X} → Every Q xs → In x xs → Q x
every_in every_none m = elim m [ ]
every_in (every_more q qs) here = q
every_in (every_more q qs) (there m) = every_in qs m

pub each_in : {X Y : Type 0} {R : X → Y → Type 0} {x : X} {xs : List X} {ys : List Y} → Each R xs ys → In x xs → (y : Y) × R x y
each_in each_none m = elim m [ ]
each_in (each_more r rs) here = (_, r)
each_in (each_more r rs) (there m) = each_in rs m

pub each_map : {X Y : Type 0} {R S : X → Y → Type 0} {xs : List X} {ys : List Y} → ((x : X) (y : Y) → R x y → S x y) → Each R xs ys → Each S xs ys
each_map f each_none = each_none
each_map f (each_more r rs) = each_more (f _ _ r) (each_map f rs)

pub each_long : {X Y : Type 0} {R : X → Y → Type 0} {xs : List X} {ys : List Y} → Each R xs ys → length xs ≡ length ys
each_long each_none = refl
each_long (each_more r rs) = ap suc (each_long rs)

pub no_cons : {X : Type 0} {x : X} {xs : List X} → x ∷ xs ≡ [] → ⊥
no_cons {x = x} {xs = xs} e = let z : length (x ∷ xs) ≡ 0 = ap length e in omega arith

pub in_front : {X : Type 0} {x : X} {xs : List X} (ys : List X) → In x xs → In x (xs ++ ys)
in_front ys here = here
in_front ys (there m) = there (in_front ys m)

pub in_back : {X : Type 0} {x : X} (xs : List X) {ys : List X} → In x ys → In x (xs ++ ys)
in_back [] m = m
in_back (y ∷ xs) m = there (in_back xs m)

or_there : {X : Type 0} {x y : X} {xs ys : List X} → In x xs ⊎ In x ys → In x (y ∷ xs) ⊎ In x ys
or_there (inl a) = inl (there a)
or_there (inr b) = inr b

pub in_either : {X : Type 0} {x : X} (xs : List X) {ys : List X} → In x (xs ++ ys) → In x xs ⊎ In x ys
in_either [] m = inr m
in_either (y ∷ xs) here = inl here
in_either (y ∷ xs) (there m) = or_there (in_either xs m)

pub in_one : {X : Type 0} {x y : X} → In x (y ∷ []) → x ≡ y
in_one here = refl
in_one (there m) = absurd (none m)
  where
    none : {X : Type 0} {x : X} → In x [] → ⊥
    none m = elim m [ ]

-- numbers among others
pub among_in : (i : ℕ) (js : List ℕ) → among i js ≡ true → In i js
among_in i [] e = absurd (false≢true e)
among_in i (j ∷ js) e = at (λ b. among_in i js b) (or_cases (eqb i j) (among i js) e)
  where
    at : (among i js ≡ true → In i js) → (eqb i j ≡ true) ⊎ (among i js ≡ true) → In i (j ∷ js)
    at f (inl a) = subst (λ (k : ℕ). In i (k ∷ js)) (eqb-true i j a) here
    at f (inr b) = there (f b)

pub in_among : (i : ℕ) (js : List ℕ) → In i js → among i js ≡ true
in_among i [] m = elim m [ ]
in_among i (j ∷ js) here = or_left (eqb i i) (among i js) (eq-eqb i i refl)
in_among i (j ∷ js) (there m) = or_right (eqb i j) (among i js) (in_among i js m)

-- the dictionary order
pub no_before : {is : List ℕ} → Before is [] → ⊥
no_before b = elim b [ ]

pub before_parts : {i j : ℕ} {is js : List ℕ} → Before (i ∷ is) (j ∷ js) → (i < j) ⊎ ((i ≡ j) × Before is js)
before_parts (now h) = inl h
before_parts (later b) = inr (refl, b)

pub ordered : (is js : List ℕ) → length is ≡ length js → (is ≡ js) ⊎ (Before is js ⊎ Before js is)
ordered [] [] e = inl refl
ordered [] (j ∷ js) e = absurd (omega arith)
ordered (i ∷ is) [] e = absurd (omega arith)
ordered (i ∷ is) (j ∷ js) e = at (λ l. ordered is js l) (cases_order i j)
  where
    same : i ≡ j → (is ≡ js) ⊎ (Before is js ⊎ Before js is) → (i ∷ is ≡ j ∷ js) ⊎ (Before (i ∷ is) (j ∷ js) ⊎ Before (j ∷ js) (i ∷ is))
    same q (inl p) = inl (cc)
    same q (inr (inl b)) = inr (inl (subst (λ (k : ℕ). Before (i ∷ is) (k ∷ js)) q (later b)))
    same q (inr (inr b)) = inr (inr (subst (λ (k : ℕ). Before (k ∷ js) (i ∷ is)) q (later b)))

    at : (length is ≡ length js → (is ≡ js) ⊎ (Before is js ⊎ Before js is)) → (i ≡ j) ⊎ ((i < j) ⊎ (j < i)) → (i ∷ is ≡ j ∷ js) ⊎ (Before (i ∷ is) (j ∷ js) ⊎ Before (j ∷ js) (i ∷ is))
    at f (inl q) = same q (f (omega arith))
    at f (inr (inl h)) = inr (inl (now h))
    at f (inr (inr h)) = inr (inr (now h))

-- a fact of the store by its identifier
pub one_fact : {f g : Stored} {S : List Stored} → Rising S → In f S → In g S → f.identifier ≡ g.identifier → f ≡ g
one_fact r here here e = refl
one_fact r here (there n) e = absurd (let h = every_in r.0 n in omega arith)
one_fact r (there m) here e = absurd (let h = every_in r.0 m in omega arith)
one_fact r (there m) (there n) e = one_fact r.1 m n e

pub same_facts : (S : List Stored) → Rising S → (fs gs : List Stored) → Every (λ f. In f S) fs → Every (λ f. In f S) gs → identifiers fs ≡ identifiers gs → fs ≡ gs
same_facts S r [] [] a b e = refl
same_facts S r [] (g ∷ gs) a b e = absurd (let z : length (identifiers []) ≡ length (identifiers (g ∷ gs)) = ap length e in omega arith)
same_facts S r (f ∷ fs) [] a b e = absurd (let z : length (identifiers (f ∷ fs)) ≡ length (identifiers []) = ap length e in omega arith)
same_facts S r (f ∷ fs) (g ∷ gs) (every_more x a) (every_more y b) e =
    let i : f.identifier ≡ g.identifier = cc in
    let is : identifiers fs ≡ identifiers gs = cc in
    let p : f ≡ g = one_fact r x y i in
    let q : fs ≡ gs = same_facts S r fs gs a b is in
    cc
