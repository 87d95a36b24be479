-- Rising identifiers. Assumes nothing.
use Rattle.std.proofs.Common.{◌≡◌, ℕ, zero, suc, ◌+◌, ◌<◌, ◌≤◌, Bool, true, false, ltb, List, [], ◌∷◌, ◌++◌, map, take, drop, sym, refl, ap, ◌∙◌, ⊎_elim, arith, ltb-true, le-ltb, lt-ltb, eq-eqb, ne_eqb}
use borrow.Author.Tests.{both_ways}
use Rattle.std.proofs.lemmas.Bool.{cases_lt, cases_eq}
use Rattle.std.specs.List.{remove}
use Rattle.facts.specs.declared.fact.Stored.{Stored as CodeStored}
use Rattle.facts.specs.Views.{stored}
use Rattle.steps.specs.State.{Stored}
use Rattle.steps.specs.Matching.{among}
use Rattle.steps.specs.Relations.{identifiers}
use Rattle.steps.specs.Step.{without}
use Rattle.state.specs.Orders.{ordered, numbers}
use Rattle.state.specs.Stores.{placed, lower, last_or}

-- the same as a type
abbrev pub Rises : ℕ → ℕ → List ℕ → Type 0
Rises low high [] = low < high
Rises low high (n ∷ ns) = (low < n) × Rises n high ns

when : (b : Bool) (t : Bool) → elim b [ true ↦ t | false ↦ false ] ≡ true → (b ≡ true) × (t ≡ true)
when true t e = (refl, e)
when false t e = absurd (both_ways false refl e)

pub rises : (low high : ℕ) (ns : List ℕ) → ordered low high ns ≡ true → Rises low high ns
rises low high [] e = ltb-true low high e
rises low high (n ∷ ns) e = let h = when (ltb low n) (ordered n high ns) e in (ltb-true low n h.0, rises n high ns h.1)

pub ordered_by : (low high : ℕ) (ns : List ℕ) → Rises low high ns → ordered low high ns ≡ true
ordered_by low high [] h = lt-ltb low high h
ordered_by low high (n ∷ ns) h = rw (lt-ltb low n h.0, ordered) (ordered_by n high ns h.1)

-- one more, at the upper end
pub rises_push : (low high : ℕ) (ns : List ℕ) → Rises low high ns → Rises low (high + 1) (ns ++ (high ∷ []))
rises_push low high [] h = (h, omega arith)
rises_push low high (n ∷ ns) h = (h.0, rises_push n high ns h.1)

-- the last comes off
pub rises_pop : (low high n : ℕ) (ns : List ℕ) → Rises low high (ns ++ (n ∷ [])) → Rises low n ns
rises_pop low high n [] h = h.0
rises_pop low high n (m ∷ ns) h = (h.0, rises_pop m high n ns h.1)

-- what rises from above an end rises from above a lower one
pub rises_from : (low end high : ℕ) (ns : List ℕ) → low ≤ end → Rises end high ns → Rises low high ns
rises_from low end high [] l h = omega arith
rises_from low end high (n ∷ ns) l h = (omega (arith, h.0), h.1)

-- one of them goes
pub rises_less : (low high : ℕ) (ns : List ℕ) (i : ℕ) → Rises low high ns → Rises low high (take i ns ++ drop (suc i) ns)
rises_less low high [] zero h = h
rises_less low high [] (suc i) h = h
rises_less low high (n ∷ ns) zero h = rises_from low n high ns (omega (arith, h.0)) h.1
rises_less low high (n ∷ ns) (suc i) h = (h.0, rises_less n high ns i h.1)

not_among : (i j : ℕ) → (i ≡ j → ⊥) → among i (j ∷ []) ≡ false
not_among i j h = rw (ne_eqb i j h)

is_among : (i j : ℕ) → i ≡ j → among i (j ∷ []) ≡ true
is_among i j h = rw (eq-eqb i j h)

pub kept_one : (i : ℕ) (x : Stored) (xs : List Stored) → (x.identifier ≡ i → ⊥) → without (i ∷ []) (x ∷ xs) ≡ x ∷ without (i ∷ []) xs
kept_one i x xs h = rw (not_among x.identifier i h, without)

pub gone_one : (i : ℕ) (x : Stored) (xs : List Stored) → x.identifier ≡ i → without (i ∷ []) (x ∷ xs) ≡ without (i ∷ []) xs
gone_one i x xs h = rw (is_among x.identifier i h, without)

-- what has only higher identifiers stays
pub all_higher : (i n high : ℕ) (xs : List Stored) → i ≤ n → Rises n high (identifiers xs) → without (i ∷ []) xs ≡ xs
all_higher i n high [] l h = refl
all_higher i n high (x ∷ xs) l h =
    let a : i < x.identifier = omega (arith, h.0) in
    kept_one i x xs (λ e. omega arith) ∙ ap (λ ys. x ∷ ys) (all_higher i x.identifier high xs (omega arith) h.1)

pub lower_past : (i : ℕ) (x : Stored) (xs : List Stored) → x.identifier < i → lower i (x ∷ xs) ≡ suc (lower i xs)
lower_past i x xs h = rw (lt-ltb x.identifier i h, lower)

pub lower_here : (i : ℕ) (x : Stored) (xs : List Stored) → i ≤ x.identifier → lower i (x ∷ xs) ≡ 0
lower_here i x xs h = rw (le-ltb x.identifier i h, lower)

pub among_more : (i j : ℕ) (js : List ℕ) → (i ≡ j → ⊥) → among i (j ∷ js) ≡ among i js
among_more i j js h = rw (ne_eqb i j h)

pub among_first : (i j : ℕ) (js : List ℕ) → i ≡ j → among i (j ∷ js) ≡ true
among_first i j js h = rw (eq-eqb i j h)

pub none_higher : (i n high : ℕ) (xs : List Stored) → i ≤ n → Rises n high (identifiers xs) → among i (identifiers xs) ≡ false
none_higher i n high [] l r = refl
none_higher i n high (x ∷ xs) l r = among_more i x.identifier (identifiers xs) (λ e. let a = r.0 in omega arith) ∙ none_higher i x.identifier high xs (let a = r.0 in omega arith) r.1

-- at the place of an identifier that is there stands its fact: without it
pub removed_there : (i low high : ℕ) (xs : List Stored) → Rises low high (identifiers xs) → among i (identifiers xs) ≡ true → remove xs (lower i xs) ≡ without (i ∷ []) xs
removed_there i low high [] r t = absurd (both_ways false refl t)
removed_there i low high (x ∷ xs) r t =
    ⊎_elim
    (λ a. rw (lower_past i x xs a) (ap (λ ys. x ∷ ys) (removed_there i x.identifier high xs r.1 (sym (among_more i x.identifier (identifiers xs) (λ q. omega arith)) ∙ t)) ∙ sym (kept_one i x xs (λ q. omega arith))))
    (λ a. rw (lower_here i x xs a) (sym (gone_one i x xs (here a) ∙ all_higher i x.identifier high xs (omega arith) r.1)))
    (cases_lt x.identifier i)
  where
    here : i ≤ x.identifier → x.identifier ≡ i
    here a =
        ⊎_elim (λ e. e)
        (λ n. absurd (both_ways _ (among_more i x.identifier (identifiers xs) (λ e. n (sym e)) ∙ none_higher i x.identifier high xs a r.1) t))
        (cases_eq x.identifier i)

-- an identifier that is not there: nothing to remove
pub removed_absent : (i : ℕ) (xs : List Stored) → among i (identifiers xs) ≡ false → without (i ∷ []) xs ≡ xs
removed_absent i [] n = refl
removed_absent i (x ∷ xs) n =
    let other : x.identifier ≡ i → ⊥ = λ e. both_ways _ n (among_first i x.identifier (identifiers xs) (sym e)) in
    kept_one i x xs other ∙ ap (λ ys. x ∷ ys) (removed_absent i xs (sym (among_more i x.identifier (identifiers xs) (λ e. other (sym e))) ∙ n))

-- a fact among others stands behind those of lower identifiers
pub placed_at : (f : Stored) (xs : List Stored) → placed f xs ≡ take (lower f.identifier xs) xs ++ (f ∷ drop (lower f.identifier xs) xs)
placed_at f [] = refl
placed_at f (x ∷ xs) =
    ⊎_elim
    (λ a. rw (lower_past f.identifier x xs a) (rw (lt-ltb x.identifier f.identifier a, placed) (ap (λ ys. x ∷ ys) (placed_at f xs))))
    (λ a. rw (lower_here f.identifier x xs a) (rw (le-ltb x.identifier f.identifier a, placed)))
    (cases_lt x.identifier f.identifier)

-- a fact that is not there finds its place among rising ones
pub rises_placed : (f : Stored) (low high : ℕ) (xs : List Stored) → Rises low high (identifiers xs) → low < f.identifier → f.identifier < high → among f.identifier (identifiers xs) ≡ false →
    Rises low high (identifiers (placed f xs))
rises_placed f low high [] r a b n = (a, b)
rises_placed f low high (x ∷ xs) r a b n =
    let other : f.identifier ≡ x.identifier → ⊥ = λ e. both_ways _ n (among_first f.identifier x.identifier (identifiers xs) e) in
    let rest : among f.identifier (identifiers xs) ≡ false = sym (among_more f.identifier x.identifier (identifiers xs) other) ∙ n in
    ⊎_elim
    (λ p. rw (lt-ltb x.identifier f.identifier p, placed) (r.0, rises_placed f x.identifier high xs r.1 p b rest))
    (λ p. let q : f.identifier < x.identifier = omega (arith, other) in rw (le-ltb x.identifier f.identifier p, placed) (a, (q, r.1)))
    (cases_lt x.identifier f.identifier)

-- the identifier of the last
pub last_is : (n : ℕ) (xs : List Stored) (x : Stored) → last_or n (xs ++ (x ∷ [])) ≡ x.identifier
last_is n [] x = refl
last_is n (y ∷ []) x = refl
last_is n (y ∷ z ∷ xs) x = last_is n (z ∷ xs) x

-- identifiers as the code and as the definitions have them
pub same_numbers : (fs : List CodeStored) → identifiers (map stored fs) ≡ numbers fs
same_numbers [] = refl
same_numbers (f ∷ fs) = ap (λ l. f.identifier ∷ l) (same_numbers fs)
