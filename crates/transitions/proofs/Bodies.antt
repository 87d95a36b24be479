-- Items of bodies: their entries, and what breaks. Assumes nothing.
use Rattle.std.proofs.Common.{◌≡◌, ℕ, Bool, true, false, cond, T, ◌⊎◌, List, [], ◌∷◌, ℤ, pos, negsuc, Some, None, Ok, Err, Option, Result, sym, refl, ap, ◌∙◌, subst, inl, inr}
use lib.Signed.{le_z}
use Rattle.std.proofs.lemmas.Bool.{true≢false, and_parts, and_from, cases_Bool, cond-true, cond-false}
use Rattle.cells.specs.Laws.{between}
use Rattle.parse.specs.Model.{Term}
use Rattle.parse.specs.Model as term
use Rattle.steps.specs.Program.{Item, add, tell, fail}
use Rattle.steps.specs.State.{Value, number, cell, Bindings, Entry, to_tell, Cause, cell_for_number, number_too_large}
use Rattle.steps.specs.Matching.{bound, plus, value_of}
use Rattle.steps.specs.Step.{body_value, body_number, joins, body_values, adds, entry_of, entries_of}
use Rattle.steps.specs.Relations.{Each, each_none, each_more, Breaks, breaks_here, breaks_later, Within, BodyValue, cell_value, number_value, BadValue, cell_in_sum, beyond, BodyEntry, tells, BadEntry, argument_breaks, left_breaks, right_breaks, right_is_cell}
use Rattle.steps.specs.Relations as relation
use Rattle.transitions.proofs.Basics.{no_some, ok_same, no_ok, err_same}
use Rattle.transitions.proofs.Values.{means_value, value_means}

-- numbers within
as_test : (b : Bool) → T b → b ≡ true
as_test true h = refl
as_test false h = absurd h

within_yes : (n : ℤ) → Within n → between (negsuc 999999999) (pos 1000000000) n ≡ true
within_yes n w = and_from (le_z (negsuc 999999999) n) (le_z n (pos 1000000000)) (as_test (le_z (negsuc 999999999) n) w.0.le) (as_test (le_z n (pos 1000000000)) w.1.le)

yes_within : (n : ℤ) → between (negsuc 999999999) (pos 1000000000) n ≡ true → Within n
yes_within n e =
    let h = and_parts (le_z (negsuc 999999999) n) (le_z n (pos 1000000000)) e in
    (record { le = subst T (sym h.0) tt }, record { le = subst T (sym h.1) tt })

not_within : (n : ℤ) → (Within n → ⊥) → between (negsuc 999999999) (pos 1000000000) n ≡ false
not_within n f = at (cases_Bool (between (negsuc 999999999) (pos 1000000000) n))
  where
    at : (between (negsuc 999999999) (pos 1000000000) n ≡ true) ⊎ (between (negsuc 999999999) (pos 1000000000) n ≡ false) → between (negsuc 999999999) (pos 1000000000) n ≡ false
    at (inl a) = absurd (f (yes_within n a))
    at (inr b) = b

-- values
pub value_gives : (θ : Bindings) (t : Term) (v : Value) → BodyValue θ t v → body_value (value_of θ t) ≡ Ok v
value_gives θ t v (cell_value k m) = ap body_value (means_value m)
value_gives θ t v (number_value n m w) = ap body_value (means_value m) ∙ cond-true (between (negsuc 999999999) (pos 1000000000) n) (Ok (number n)) (Err number_too_large) (within_yes n w)

pub value_breaks : (θ : Bindings) (t : Term) (e : Cause) → BadValue θ t e → body_value (value_of θ t) ≡ Err e
value_breaks θ t e (cell_in_sum i k n b) = ap (λ (w : Value). body_value (plus w n)) b
value_breaks θ t e (beyond n m w) = ap body_value (means_value m) ∙ cond-false (between (negsuc 999999999) (pos 1000000000) n) (Ok (number n)) (Err number_too_large) (not_within n w)

pub gives_value : (θ : Bindings) (t : Term) (v : Value) → body_value (value_of θ t) ≡ Ok v → BodyValue θ t v
gives_value θ t v e = at (value_of θ t) refl e
  where
    by : (n : ℤ) → value_of θ t ≡ Some (number n) → (b : Bool) → between (negsuc 999999999) (pos 1000000000) n ≡ b → cond b (Ok (number n)) (Err number_too_large) ≡ Ok v → BodyValue θ t v
    by n q true p e = subst (BodyValue θ t) (ok_same e) (number_value n (value_means θ t (number n) q) (yes_within n p))
    by n q false p e = no_ok e

    at : (o : Option Value) → value_of θ t ≡ o → body_value o ≡ Ok v → BodyValue θ t v
    at None q e = no_ok e
    at (Some (cell k)) q e = subst (BodyValue θ t) (ok_same e) (cell_value k (value_means θ t (cell k) q))
    at (Some (number n)) q e = by n q (between (negsuc 999999999) (pos 1000000000) n) refl e

no_value : (θ : Bindings) (t : Term) → value_of θ t ≡ None → BadValue θ t cell_for_number
no_value θ (term.number n) e = no_some (sym e)
no_value θ (term.cell k) e = no_some (sym e)
no_value θ (term.variable i) e = no_some (sym e)
no_value θ (term.sum i n) e = at (bound θ i) refl e
  where
    at : (w : Value) → bound θ i ≡ w → plus w n ≡ None → BadValue θ (term.sum i n) cell_for_number
    at (number m) b e = no_some (sym e)
    at (cell k) b e = cell_in_sum i k n b

pub breaks_value : (θ : Bindings) (t : Term) (c : Cause) → body_value (value_of θ t) ≡ Err c → BadValue θ t c
breaks_value θ t c e = at (value_of θ t) refl e
  where
    by : (n : ℤ) → value_of θ t ≡ Some (number n) → (b : Bool) → between (negsuc 999999999) (pos 1000000000) n ≡ b → ◌≡◌ {A = Result Value Cause} (cond b (Ok (number n)) (Err number_too_large)) (Err c) → BadValue θ t c
    by n q true p e = no_ok (sym e)
    by n q false p e = subst (BadValue θ t) (err_same e) (beyond n (value_means θ t (number n) q) (λ w. true≢false (sym (within_yes n w) ∙ p)))

    at : (o : Option Value) → value_of θ t ≡ o → body_value o ≡ Err c → BadValue θ t c
    at None q e = subst (BadValue θ t) (err_same e) (no_value θ t q)
    at (Some (cell k)) q e = no_ok (sym e)
    at (Some (number n)) q e = by n q (between (negsuc 999999999) (pos 1000000000) n) refl e

-- results joined
joins_ok : {A B C : Type 0} (f : A → B → C) (x : Result A Cause) (y : Result B Cause) (c : C) → joins f x y ≡ Ok c → (a : A) × (b : B) × (x ≡ Ok a) × (y ≡ Ok b) × (f a b ≡ c)
joins_ok f (Err e) y c q = no_ok q
joins_ok f (Ok a) (Err e) c q = no_ok q
joins_ok f (Ok a) (Ok b) c q = (a, b, refl, refl, ok_same q)

joins_err : {A B C : Type 0} (f : A → B → C) (x : Result A Cause) (y : Result B Cause) (e : Cause) → joins f x y ≡ Err e → (x ≡ Err e) ⊎ ((a : A) × (x ≡ Ok a) × (y ≡ Err e))
joins_err f (Err d) y e q = inl (ap (λ (z : Cause). Err z) (err_same q))
joins_err f (Ok a) (Err d) e q = inr (a, refl, ap (λ (z : Cause). Err z) (err_same q))
joins_err f (Ok a) (Ok b) e q = no_ok (sym q)

-- results from left to right
abbrev gather : {X Y : Type 0} → (X → Result Y Cause) → List X → Result (List Y) Cause
gather f [] = Ok []
gather f (x ∷ xs) = joins (λ y ys. y ∷ ys) (f x) (gather f xs)

module _ {X Y : Type 0} (R : X → Y → Type 0) (Bad : X → Cause → Type 0) (f : X → Result Y Cause) where
  gather_is : ((x : X) (y : Y) → R x y → f x ≡ Ok y) → {xs : List X} {ys : List Y} → Each R xs ys → gather f xs ≡ Ok ys
  gather_is g each_none = refl
  gather_is g (each_more {x = x} {y = y} r rs) = rw (g x y r, gather_is g rs)

  gather_breaks : ((x : X) (y : Y) → R x y → f x ≡ Ok y) → ((x : X) (e : Cause) → Bad x e → f x ≡ Err e) → {xs : List X} {e : Cause} → Breaks R Bad xs e → gather f xs ≡ Err e
  gather_breaks g h (breaks_here {x = x} {c = c} b) = rw (h x c b)
  gather_breaks g h (breaks_later {x = x} {y = y} r b) = rw (g x y r, gather_breaks g h b)

  is_gather : ((x : X) (y : Y) → f x ≡ Ok y → R x y) → (xs : List X) (ys : List Y) → gather f xs ≡ Ok ys → Each R xs ys
  is_gather g [] ys e = subst (Each R []) (ok_same e) each_none
  is_gather g (x ∷ xs) ys e =
      let j = joins_ok (λ (y : Y) (zs : List Y). y ∷ zs) (f x) (gather f xs) ys e in
      subst (Each R (x ∷ xs)) j.4 (each_more (g x j.0 j.2) (is_gather g xs j.1 j.3))

  breaks_gather : ((x : X) (y : Y) → f x ≡ Ok y → R x y) → ((x : X) (e : Cause) → f x ≡ Err e → Bad x e) → (xs : List X) (e : Cause) → gather f xs ≡ Err e → Breaks R Bad xs e
  breaks_gather g h [] e q = no_ok (sym q)
  breaks_gather g h (x ∷ xs) e q = at (λ p. breaks_gather g h xs e p) (joins_err (λ (y : Y) (zs : List Y). y ∷ zs) (f x) (gather f xs) e q)
    where
      at : (gather f xs ≡ Err e → Breaks R Bad xs e) → (f x ≡ Err e) ⊎ ((y : Y) × (f x ≡ Ok y) × (gather f xs ≡ Err e)) → Breaks R Bad (x ∷ xs) e
      at k (inl p) = breaks_here (h x e p)
      at k (inr p) = breaks_later (g x p.0 p.1) (k p.2)

-- arguments
body_values_gather : (θ : Bindings) (ts : List Term) → body_values θ ts ≡ gather (λ t. body_value (value_of θ t)) ts
body_values_gather θ [] = refl
body_values_gather θ (t ∷ ts) = ap (joins (λ (v : Value) (vs : List Value). v ∷ vs) (body_value (value_of θ t))) (body_values_gather θ ts)

-- items
pub entry_gives : (θ : Bindings) (i : Item) (e : Entry) → BodyEntry θ i e → entry_of θ i ≡ Ok e
entry_gives θ i e (relation.adds p vs a) =
    ap (adds p.predicate) (body_values_gather θ p.arguments ∙ gather_is (BodyValue θ) (BadValue θ) (λ t. body_value (value_of θ t)) (value_gives θ) a)
entry_gives θ i e (tells c v n l r) = rw (value_gives θ c.left v l, value_gives θ c.right (number n) r)
entry_gives θ i e relation.fails = refl

pub entry_breaks : (θ : Bindings) (i : Item) (e : Cause) → BadEntry θ i e → entry_of θ i ≡ Err e
entry_breaks θ i e (argument_breaks p c b) =
    ap (adds p.predicate) (body_values_gather θ p.arguments ∙ gather_breaks (BodyValue θ) (BadValue θ) (λ t. body_value (value_of θ t)) (value_gives θ) (value_breaks θ) b)
entry_breaks θ i e (left_breaks c d b) = rw (value_breaks θ c.left d b)
entry_breaks θ i e (right_breaks c v d l b) = rw (value_gives θ c.left v l, value_breaks θ c.right d b)
entry_breaks θ i e (right_is_cell c v k l r) = rw (value_gives θ c.left v l, value_gives θ c.right (cell k) r)

number_ok : (x : Result Value Cause) (n : ℤ) → body_number x ≡ Ok n → x ≡ Ok (number n)
number_ok (Err e) n q = no_ok q
number_ok (Ok (cell k)) n q = no_ok q
number_ok (Ok (number m)) n q = ap (λ (z : ℤ). Ok (number z)) (ok_same q)

number_err : (x : Result Value Cause) (e : Cause) → body_number x ≡ Err e → (x ≡ Err e) ⊎ ((k : ℕ) × (x ≡ Ok (cell k)) × (cell_for_number ≡ e))
number_err (Err d) e q = inl (ap (λ (z : Cause). Err z) (err_same q))
number_err (Ok (cell k)) e q = inr (k, refl, err_same q)
number_err (Ok (number m)) e q = no_ok (sym q)

pub gives_entry : (θ : Bindings) (i : Item) (e : Entry) → entry_of θ i ≡ Ok e → BodyEntry θ i e
gives_entry θ (add p) e q = at (body_values θ p.arguments) refl q
  where
    at : (x : Result (List Value) Cause) → body_values θ p.arguments ≡ x → adds p.predicate x ≡ Ok e → BodyEntry θ (add p) e
    at (Err d) b q = no_ok q
    at (Ok vs) b q =
        subst (BodyEntry θ (add p)) (ok_same q)
        (relation.adds p vs (is_gather (BodyValue θ) (BadValue θ) (λ t. body_value (value_of θ t)) (gives_value θ) p.arguments vs (sym (body_values_gather θ p.arguments) ∙ b)))
gives_entry θ (tell c) e q =
    let j = joins_ok (λ (l : Value) (n : ℤ). to_tell l c.telling n) (body_value (value_of θ c.left)) (body_number (body_value (value_of θ c.right))) e q in
    subst (BodyEntry θ (tell c)) j.4
    (tells c j.0 j.1 (gives_value θ c.left j.0 j.2) (gives_value θ c.right (number j.1) (number_ok (body_value (value_of θ c.right)) j.1 j.3)))
gives_entry θ fail e q = subst (BodyEntry θ fail) (ok_same q) relation.fails

pub breaks_entry : (θ : Bindings) (i : Item) (e : Cause) → entry_of θ i ≡ Err e → BadEntry θ i e
breaks_entry θ (add p) e q = at (body_values θ p.arguments) refl q
  where
    at : (x : Result (List Value) Cause) → body_values θ p.arguments ≡ x → adds p.predicate x ≡ Err e → BadEntry θ (add p) e
    at (Err d) b q =
        argument_breaks p e (breaks_gather (BodyValue θ) (BadValue θ) (λ t. body_value (value_of θ t)) (gives_value θ) (breaks_value θ) p.arguments e
        (sym (body_values_gather θ p.arguments) ∙ b ∙ ap (λ (z : Cause). Err z) (err_same q)))
    at (Ok vs) b q = no_ok (sym q)
breaks_entry θ (tell c) e q = at (joins_err (λ (l : Value) (n : ℤ). to_tell l c.telling n) (body_value (value_of θ c.left)) (body_number (body_value (value_of θ c.right))) e q)
  where
    by : (v : Value) → body_value (value_of θ c.left) ≡ Ok v → (body_value (value_of θ c.right) ≡ Err e) ⊎ ((k : ℕ) × (body_value (value_of θ c.right) ≡ Ok (cell k)) × (cell_for_number ≡ e)) → BadEntry θ (tell c) e
    by v l (inl r) = right_breaks c v e (gives_value θ c.left v l) (breaks_value θ c.right e r)
    by v l (inr r) = subst (BadEntry θ (tell c)) r.2 (right_is_cell c v r.0 (gives_value θ c.left v l) (gives_value θ c.right (cell r.0) r.1))

    at : (body_value (value_of θ c.left) ≡ Err e) ⊎ ((v : Value) × (body_value (value_of θ c.left) ≡ Ok v) × (body_number (body_value (value_of θ c.right)) ≡ Err e)) → BadEntry θ (tell c) e
    at (inl l) = left_breaks c e (breaks_value θ c.left e l)
    at (inr l) = by l.0 l.1 (number_err (body_value (value_of θ c.right)) e l.2)
breaks_entry θ fail e q = no_ok (sym q)

-- all items
entries_gather : (θ : Bindings) (is : List Item) → entries_of θ is ≡ gather (entry_of θ) is
entries_gather θ [] = refl
entries_gather θ (i ∷ is) = ap (joins (λ (e : Entry) (es : List Entry). e ∷ es) (entry_of θ i)) (entries_gather θ is)

pub entries_give : (θ : Bindings) (is : List Item) (es : List Entry) → Each (BodyEntry θ) is es → entries_of θ is ≡ Ok es
entries_give θ is es a = entries_gather θ is ∙ gather_is (BodyEntry θ) (BadEntry θ) (entry_of θ) (entry_gives θ) a

pub entries_break : (θ : Bindings) (is : List Item) (c : Cause) → Breaks (BodyEntry θ) (BadEntry θ) is c → entries_of θ is ≡ Err c
entries_break θ is c b = entries_gather θ is ∙ gather_breaks (BodyEntry θ) (BadEntry θ) (entry_of θ) (entry_gives θ) (entry_breaks θ) b

pub give_entries : (θ : Bindings) (is : List Item) (es : List Entry) → entries_of θ is ≡ Ok es → Each (BodyEntry θ) is es
give_entries θ is es e = is_gather (BodyEntry θ) (BadEntry θ) (entry_of θ) (gives_entry θ) is es (sym (entries_gather θ is) ∙ e)

pub break_entries : (θ : Bindings) (is : List Item) (c : Cause) → entries_of θ is ≡ Err c → Breaks (BodyEntry θ) (BadEntry θ) is c
break_entries θ is c e = breaks_gather (BodyEntry θ) (BadEntry θ) (entry_of θ) (gives_entry θ) (breaks_entry θ) is c (sym (entries_gather θ is) ∙ e)
