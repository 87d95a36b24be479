-- Readers of several parts are right. Assumes nothing.
use Rattle.std.proofs.Common.{◌≡◌, ℕ, zero, suc, true, false, eqb, ◌⊎◌, List, [], ◌∷◌, ◌++◌, sym, refl, ap, ◌∙◌, subst, inl, inr, arith}
use Rattle.std.proofs.lemmas.Bool.{eqb-true, eq-eqb, or_cases, or_left, false≢true}
use Rattle.syntax.specs.Syntax.{W, name, var, num, weight, sign, kind, mem, Note, fine, flaw, Said, front, Fine, Reader, ahead, spoiled}
use Rattle.syntax.specs.Good.{Begins, Good}
use Rattle.syntax.specs.Parts.{Some, last, more, mark, Chain, some_of, parts, say_all, say_parts, list_of, many, list_all, say_many}
use Rattle.syntax.proofs.Laws.{rest, rest_fine, fine_app, fine_parts, say_both, stops_both, both_good, one_good, nothing_good, say_fork, stops_fork, fork_good, say_ended, stops_ended, ended_good, over_good, via_good}

-- the word ahead is none of some kinds
abbrev pub Stop : List ℕ → List W → Type 0
Stop ks r = ahead ks r ≡ false

abbrev pub Free : {X : Type 0} → X → List W → Type 0
Free x r = Unit {0}

only : (c k : ℕ) → mem (c ∷ []) k ≡ true → c ≡ k
only c k h = ⊎-only (or_cases (eqb c k) false h)
  where
    ⊎-only : (eqb c k ≡ true) ⊎ (false ≡ true) → c ≡ k
    ⊎-only (inl e) = eqb-true c k e
    ⊎-only (inr e) = absurd (false≢true e)

pub only_self : (c : ℕ) → mem (c ∷ []) c ≡ true
only_self c = or_left (eqb c c) false (eq-eqb c c refl)

pub mark_forth : (c : ℕ) (w : W) → mem (kind (sign c) ∷ []) (kind w) ≡ true → sign c ≡ w
mark_forth c (name p s) m = let e = only (kind (sign c)) (kind (name p s)) m in absurd (omega arith)
mark_forth c (var s) m = let e = only (kind (sign c)) (kind (var s)) m in absurd (omega arith)
mark_forth c (num s) m = let e = only (kind (sign c)) (kind (num s)) m in absurd (omega arith)
mark_forth c (weight s) m = let e = only (kind (sign c)) (kind (weight s)) m in absurd (omega arith)
mark_forth c (sign d) m = let e = only (kind (sign c)) (kind (sign d)) m in ap sign (omega arith)

abbrev pub say_mark : ℕ → Unit {0} → Said
say_mark c u = (sign c, fine) ∷ []

pub mark_good : (c : ℕ) → Good (mark c) (say_mark c) Free
mark_good c = one_good (kind (sign c) ∷ []) (λ _. tt) (λ _. fine) (λ _. sign c) tt (λ x. refl) (λ x. only_self (kind (sign c))) (mark_forth c)

abbrev pub chain : {X : Type 0} → Some X → Chain X
chain (last x) = (x, inr tt)
chain (more x xs) = (x, inl (tt, xs))

pub app_nil : (s : Said) → s ++ [] ≡ s
app_nil [] = refl
app_nil (x ∷ s) = ap (λ t. x ∷ t) (app_nil s)

pub begins_app : (ks : List ℕ) (a b : Said) → Begins ks a → Begins ks (a ++ b)
begins_app ks [] b h = absurd h
begins_app ks (x ∷ s) b h = h

pub begins_spoiled : (ks : List ℕ) (n : ℕ) (a : Said) → Begins ks a → Begins ks (spoiled n a)
begins_spoiled ks n [] h = h
begins_spoiled ks n (x ∷ s) h = h

rest_nil : (a : Said) (r : List W) → rest a [] r ≡ r
rest_nil [] r = refl
rest_nil ((w, fine) ∷ s) r = rest_nil s r
rest_nil ((w, flaw n) ∷ s) r = refl

chain_back : {X : Type 0} (y : Some X) → some_of (chain y) ≡ y
chain_back (last x) = refl
chain_back (more x xs) = refl

chain_forth : {X : Type 0} (c : Chain X) → chain (some_of c) ≡ c
chain_forth (x, inl (u, xs)) = refl
chain_forth (x, inr u) = refl

-- every word of some kinds begins a part
abbrev pub Starts : {X : Type 0} → List ℕ → (X → Said) → Type 0
Starts {X} ks say = (w : W) → mem ks (kind w) ≡ true → (x : X) × (m : Note) × (s : Said) × (say x ≡ (w, m) ∷ s)

module _ {S X : Type 0} (sep : ℕ) (next : S → X → S) (say : S → X → Said) (SP : S → X → List W → Type 0) where
  abbrev pub stops_parts : ℕ → S → Some X → List W → Type 0
  stops_parts zero σ xs r = Unit {0}
  stops_parts (suc k) σ xs r = stops_both (say σ) (λ x. say_fork (say_both (say_mark sep) (λ _. say_parts sep say next k (next σ x))) (λ _. [])) (SP σ) (λ x. stops_fork (kind (sign sep) ∷ []) (λ _. []) (stops_both (say_mark sep) (λ _. say_parts sep say next k (next σ x)) Free (λ _. stops_parts k (next σ x))) Free) (chain xs) r

  parts_same : (k : ℕ) (σ : S) (c : Chain X) → say_parts sep say next (suc k) σ (some_of c) ≡ say_both (say σ) (λ x. say_fork (say_both (say_mark sep) (λ _. say_parts sep say next k (next σ x))) (λ _. [])) c
  parts_same k σ (x, inl (u, xs)) = refl
  parts_same k σ (x, inr u) = sym (app_nil (say σ x))

  module _ (first : List ℕ) (opens : (σ : S) (x : X) → Begins first (say σ x)) where
    all_begin : (σ : S) (xs : Some X) → Begins first (say_all sep say next σ xs)
    all_begin σ (last x) = opens σ x
    all_begin σ (more x xs) = begins_app first (say σ x) _ (opens σ x)

    pub parts_begin : (k : ℕ) (σ : S) (xs : Some X) → Begins first (say_parts sep say next k σ xs)
    parts_begin zero σ xs = begins_spoiled first 5 (say_all sep say next σ xs) (all_begin σ xs)
    parts_begin (suc k) σ (last x) = opens σ x
    parts_begin (suc k) σ (more x xs) = begins_app first (say σ x) _ (opens σ x)

    module _ (starts : (σ : S) → Starts first (say σ)) (part : S → Reader X) (gp : (σ : S) → Good (part σ) (say σ) (SP σ)) where
      pub parts_good : (k : ℕ) (σ : S) → Good (parts first sep part next k σ) (say_parts sep say next k σ) (stops_parts k σ)
      parts_good zero σ = over_good first 5 (say_all sep say next σ) (last (gp σ).some) (all_begin σ) (λ w m. let b = starts σ w m in (last b.0, b.1, b.2, b.3))
      parts_good (suc k) σ = via_good some_of chain (say_parts sep say next (suc k) σ) chain_back chain_forth (parts_same k σ) (both_good (gp σ) (λ x. fork_good (kind (sign sep) ∷ []) (λ z. only_self (kind (sign sep))) (both_good (mark_good sep) (λ _. parts_good k (next σ x))) nothing_good))

  -- a word that ends a part and is not the mark ends the parts
  module _ (g : List ℕ) (clear : mem g (kind (sign sep)) ≡ false) (ends : (σ : S) (x : X) (r : List W) → (Fine (say σ x) → Stop g r) → SP σ x r) where
    pub parts_stop : (k : ℕ) (σ : S) (xs : Some X) (r : List W) → (Fine (say_parts sep say next k σ xs) → Stop g r × Stop (kind (sign sep) ∷ []) r) → stops_parts k σ xs r
    parts_stop zero σ xs r h = tt
    parts_stop (suc k) σ (last x) r h = (ends σ x _ (λ f. subst (Stop g) (sym (rest_nil (say σ x) r)) (h f).0), λ f. (tt, (h f).1))
    parts_stop (suc k) σ (more x xs) r h =
        (ends σ x _ (λ f. subst (Stop g) (sym (rest_fine (say σ x) _ r f)) clear), λ f. (tt, λ _. parts_stop k (next σ x) xs r (λ e. h (fine_app (say σ x) _ f e))))

abbrev unlist : {X : Type 0} → List X → ((x : X) × List X) ⊎ Unit {0}
unlist [] = inr tt
unlist (x ∷ xs) = inl (x, xs)

unlist_back : {X : Type 0} (y : List X) → list_of (unlist y) ≡ y
unlist_back [] = refl
unlist_back (x ∷ xs) = refl

unlist_forth : {X : Type 0} (c : ((x : X) × List X) ⊎ Unit {0}) → unlist (list_of c) ≡ c
unlist_forth (inl (x, xs)) = refl
unlist_forth (inr u) = refl

module _ {S X : Type 0} (next : S → X → S) (say : S → X → Said) (SP : S → X → List W → Type 0) where
  abbrev say_first : S → ((x : X) × List X) → Said
  say_first σ c = say σ c.0 ++ list_all say next (next σ c.0) c.1

  abbrev pub stops_many : ℕ → S → List X → List W → Type 0
  stops_many zero σ xs r = stops_ended {X = (x : X) × List X} Free (unlist xs) r
  stops_many (suc k) σ xs r = stops_ended (stops_both (say σ) (λ x. say_many say next k (next σ x)) (SP σ) (λ x. stops_many k (next σ x))) (unlist xs) r

  many_same_over : (σ : S) (c : ((x : X) × List X) ⊎ Unit {0}) → say_many say next zero σ (list_of c) ≡ say_ended (λ x. spoiled 5 (say_first σ x)) c
  many_same_over σ (inl (x, xs)) = refl
  many_same_over σ (inr u) = refl

  many_same : (k : ℕ) (σ : S) (c : ((x : X) × List X) ⊎ Unit {0}) → say_many say next (suc k) σ (list_of c) ≡ say_ended (say_both (say σ) (λ x. say_many say next k (next σ x))) c
  many_same k σ (inl (x, xs)) = refl
  many_same k σ (inr u) = refl

  module _ (first : List ℕ) (opens : (σ : S) (x : X) → Begins first (say σ x)) (starts : (σ : S) → Starts first (say σ)) (part : S → Reader X) (gp : (σ : S) → Good (part σ) (say σ) (SP σ)) where
    pub many_good : (k : ℕ) (σ : S) → Good (many first part next k σ) (say_many say next k σ) (stops_many k σ)
    many_good zero σ = via_good list_of unlist (say_many say next zero σ) unlist_back unlist_forth (many_same_over σ) (ended_good first (λ c. begins_spoiled first 5 (say_first σ c) (begins_app first (say σ c.0) _ (opens σ c.0))) (over_good first 5 (say_first σ) ((gp σ).some, []) (λ c. begins_app first (say σ c.0) _ (opens σ c.0)) (λ w m. let b = starts σ w m in ((b.0, []), b.1, b.2, app_nil (say σ b.0) ∙ b.3))))
    many_good (suc k) σ = via_good list_of unlist (say_many say next (suc k) σ) unlist_back unlist_forth (many_same k σ) (ended_good first (λ c. begins_app first (say σ c.0) _ (opens σ c.0)) (both_good (gp σ) (λ x. many_good k (next σ x))))

  -- at the end a list stops, and nowhere else; every word that begins a part ends the part before
  module _ (first : List ℕ) (opens : (σ : S) (x : X) → Begins first (say σ x)) (g : List ℕ) (clear : (k : ℕ) → mem first k ≡ true → mem g k ≡ false) (ends : (σ : S) (x : X) (r : List W) → (Fine (say σ x) → Stop g r) → SP σ x r) where
    stop_begins : (s : Said) (r : List W) → Begins first s → Stop g (front s r)
    stop_begins [] r h = absurd h
    stop_begins (x ∷ s) r h = clear (kind x.0) h

    many_begin : (k : ℕ) (σ : S) (x : X) (xs : List X) → Begins first (say_many say next k σ (x ∷ xs))
    many_begin zero σ x xs = begins_spoiled first 5 (say_first σ (x, xs)) (begins_app first (say σ x) _ (opens σ x))
    many_begin (suc k) σ x xs = begins_app first (say σ x) _ (opens σ x)

    many_ahead : (k : ℕ) (σ : S) (xs : List X) (r : List W) → (Fine (say_many say next k σ xs) → r ≡ []) → Stop g (front (say_many say next k σ xs) r)
    many_ahead zero σ [] r h = ap (ahead g) (h tt)
    many_ahead (suc k) σ [] r h = ap (ahead g) (h tt)
    many_ahead zero σ (x ∷ xs) r h = stop_begins _ r (many_begin zero σ x xs)
    many_ahead (suc k) σ (x ∷ xs) r h = stop_begins _ r (many_begin (suc k) σ x xs)

    pub many_stop : (k : ℕ) (σ : S) (xs : List X) (r : List W) → (Fine (say_many say next k σ xs) → r ≡ []) → stops_many k σ xs r
    many_stop zero σ [] r h = h tt
    many_stop zero σ (x ∷ xs) r h = tt
    many_stop (suc k) σ [] r h = h tt
    many_stop (suc k) σ (x ∷ xs) r h =
        let all : Said = say_many say next k (next σ x) xs in (
          ends σ x _ (λ f. subst (Stop g) (sym (rest_fine (say σ x) all r f)) (many_ahead k (next σ x) xs r (λ e. h (fine_app (say σ x) all f e)))),
          λ f. many_stop k (next σ x) xs r (λ e. h (fine_app (say σ x) all f e)),
        )

    pub many_end : (k : ℕ) (σ : S) (xs : List X) (r : List W) → Fine (say_many say next k σ xs) → stops_many k σ xs r → r ≡ []
    many_end zero σ [] r f h = h
    many_end zero σ (x ∷ xs) r f h = absurd (spoiled_bad (say σ x) (opens σ x) f)
      where
        spoiled_bad : (s : Said) → Begins first s → Fine (spoiled 5 (s ++ list_all say next (next σ x) xs)) → ⊥
        spoiled_bad [] b f = b
        spoiled_bad (y ∷ s) b f = f
    many_end (suc k) σ [] r f h = h
    many_end (suc k) σ (x ∷ xs) r f h = let p = fine_parts (say σ x) _ f in many_end k (next σ x) xs r p.1 (h.1 p.0)
