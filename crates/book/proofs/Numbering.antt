-- Predicates in a table. Assumes nothing.
use Rattle.std.proofs.Common.{◌≡◌, ℕ, suc, ◌+◌, ◌<◌, ◌≤◌, Bool, true, false, cond, not, ◌&&◌, ◌||◌, ◌==◌, ltb, List, [], ◌∷◌, ◌++◌, map, length, get_or, drop, IsErrAnd, vec_len, Decides, Some, None, Result, sym, refl, ap, ◌∙◌, subst, arith}
use Rattle.std.proofs.lemmas.Result.{err_from_is_err_and}
use Rattle.std.proofs.lemmas.Bool.{cond_both, eq-eqb, ltb-true, ltb-false, cond-true, cond-false, false≢true, lt-ltb, le-ltb}
use Rattle.std.proofs.lemmas.List.{drop_more, drop_all, length-map}
use Rattle.syntax.specs.Grammar.{same_name}
use Rattle.std.specs.List.{position, position_or_len}
use Rattle.words.specs.Names.{name_bytes, name_eq}
use Rattle.words.proofs.Names.{spelled_alike}
use Rattle.parse.specs.Model.{Mention}
use Rattle.parse.proofs.Names.{same_yes, same_no}
use Rattle.book.specs.declared.predicate.Predicate.{Predicate as Code}
use Rattle.book.specs.declared.predicate.Predicates.{Predicates}
use Rattle.book.specs.declared.faults.BookFault.{BookFault}
use Rattle.book.specs.declared.faults.BookFault.TheVariants.{Grammar, Unbound, Reused, InGoal, Unknown, Memory}
use Rattle.book.specs.declared.faults.GrammarFault.TheVariants.{Letter, Barred, TooMany}
use Rattle.book.specs.Predicates.{Predicate, Numbered, predicates_agree, has, number_of, predicate_of, coded, predicates, Listing, these, excess, noted, on_these, listing, Excess, Listed, all_known, unknown_at, unknowns}

-- a test that decides whether two names are the same
pub decided : (r : Bool) (a b : List ℕ) → Decides r (a ≡ b) → r ≡ same_name a b
decided true a b d = sym (same_yes a b (d.0 refl))
decided false a b d = sym (same_no a b (λ e. false≢true (d.1 e)))

-- `==` of two predicates is whether they agree
pub agreeing : (k q : Code) → (name_eq k.name q.name && k.arity == q.arity) ≡ predicates_agree (coded k) (coded q)
agreeing k q =
    ap (λ b. b && k.arity == q.arity) (decided (name_eq k.name q.name) (name_bytes k.name) (name_bytes q.name) (spelled_alike k.name q.name))
    ∙ and_swap (same_name (name_bytes k.name) (name_bytes q.name)) (k.arity == q.arity)
  where
    and_swap : (a b : Bool) → (a && b) ≡ (b && a)
    and_swap true true = refl
    and_swap true false = refl
    and_swap false true = refl
    and_swap false false = refl

-- predicates with as many arguments agree exactly if their names do
pub agreeing_by_names : (k q : Code) (r : Bool) → k.arity ≡ q.arity → Decides r (name_bytes k.name ≡ name_bytes q.name) → r ≡ predicates_agree (coded k) (coded q)
agreeing_by_names k q r e d =
    let a = name_bytes k.name in
    let b = name_bytes q.name in
    decided r a b d ∙ sym (ap (λ t. t && same_name a b) (eq-eqb k.arity q.arity e))

one_further : (m n : ℕ) (b : Bool) → ltb m n ≡ b → ltb m n ≡ ltb (1 + m) (suc n)
one_further m n true e = e ∙ sym (lt-ltb (1 + m) (suc n) (omega (arith, ltb-true m n e)))
one_further m n false e = e ∙ sym (le-ltb (1 + m) (suc n) (omega (arith, ltb-false m n e)))

-- a test of predicates that says whether they are q finds q's number
module _ (q : Predicate) (is : Code → Bool) (same : (k : Code) → is k ≡ predicates_agree (coded k) q) where
  counted_to : (ps : List Code) → number_of (map coded ps) q ≡ position_or_len is ps
  counted_to [] = refl
  counted_to (k ∷ ps) = ap (λ b. cond b 0 (suc (number_of (map coded ps) q))) (sym (same k)) ∙ go (is k) (counted_to ps)
    where
      go : (b : Bool) {m n : ℕ} → m ≡ n → cond b 0 (suc m) ≡ cond (not b) (1 + n) 0
      go true e = refl
      go false e = omega arith

  there : (ps : List Code) → has (map coded ps) q ≡ ltb (position_or_len is ps) (length ps)
  there [] = refl
  there (k ∷ ps) = ap (λ b. b || has (map coded ps) q) (sym (same k)) ∙ go (is k) (there ps)
    where
      go : (b : Bool) {h : Bool} → h ≡ ltb (position_or_len is ps) (length ps) → (b || h) ≡ ltb (cond (not b) (1 + position_or_len is ps) 0) (suc (length ps))
      go true e = sym (lt-ltb 0 (suc (length ps)) (omega arith))
      go false e = e ∙ one_further (position_or_len is ps) (length ps) (ltb (position_or_len is ps) (length ps)) refl

  pub numbered_by : (ps : List Code) → Numbered (map coded ps) q (position is ps)
  numbered_by ps =
      let n = position_or_len is ps in
      cond_both (ltb n (length ps)) (Some n) None (Numbered (map coded ps) q)
      (λ e. (rw length-map (ltb-true n (length ps) e), there ps ∙ e, counted_to ps))
      (λ e. there ps ∙ e)

-- a fact's predicate
module _ (ps : List Predicate) (f : Mention) where
  pub noted_known : has ps (predicate_of f) ≡ true → noted ps f ≡ these ps
  noted_known h = cond-true (has ps (predicate_of f)) _ _ h

  pub noted_new : has ps (predicate_of f) ≡ false → length ps < 32 → noted ps f ≡ these (ps ++ predicate_of f ∷ [])
  noted_new h k = cond-false (has ps (predicate_of f)) _ _ h ∙ cond-true (ltb (length ps) 32) _ _ (lt-ltb (length ps) 32 k)

  pub noted_over : has ps (predicate_of f) ≡ false → 32 ≤ length ps → noted ps f ≡ excess f.place
  noted_over h k = cond-false (has ps (predicate_of f)) _ _ h ∙ cond-false (ltb (length ps) 32) _ _ (le-ltb (length ps) 32 k)

pub predicates_length : (ps : Predicates) → length (predicates ps) ≡ vec_len ps.list
predicates_length ps = rw length-map (sym ps.list.ok.0)

-- a row of facts, one at a time
module _ {T : Type 0} (view : T → Mention) (fs : List T) where
  abbrev pub ListingOn : ℕ → List Predicate → Type 0
  ListingOn i ps = listing ps (map view (drop i fs)) ≡ listing [] (map view fs)

  module _ (i : ℕ) (x : T) (ps : List Predicate) (h : i < length fs) (s : x ≡ get_or fs i x) (so : ListingOn i ps) where
    went : on_these (noted ps (view x)) (λ qs. listing qs (map view (drop (i + 1) fs))) ≡ listing [] (map view fs)
    went = sym (ap (λ l. listing ps (map view l)) (drop_more fs i x h ∙ ap (λ y. y ∷ drop (i + 1) fs) (sym s))) ∙ so

    pub listing_more : (qs : List Predicate) → noted ps (view x) ≡ these qs → ListingOn (i + 1) qs
    listing_more qs e = sym (ap (λ l. on_these l (λ qs. listing qs (map view (drop (i + 1) fs)))) e) ∙ went

    pub listing_over : (e : BookFault) → Excess e (noted ps (view x)) → Excess e (listing [] (map view fs))
    listing_over (Grammar (Letter l)) t = t
    listing_over (Grammar (Barred p)) t = t
    listing_over (Grammar (TooMany p)) t = sym went ∙ ap (λ l. on_these l (λ qs. listing qs (map view (drop (i + 1) fs)))) t
    listing_over (Unbound p) t = t
    listing_over (Reused p) t = t
    listing_over (InGoal p) t = t
    listing_over (Unknown p) t = t
    listing_over Memory t = t

  pub listing_all : (i : ℕ) (ps : List Predicate) → length fs ≤ i → ListingOn i ps → listing [] (map view fs) ≡ these ps
  listing_all i ps h so = sym so ∙ ap (λ l. listing ps (map view l)) (drop_all i fs h)

-- the exit of a `?`
pub exit_listed : (l : Listing) (f : BookFault) (r : Result Predicates BookFault) → IsErrAnd r (λ y. y ≡ f) → Excess f l → Listed r l
exit_listed l f r e h = let p = err_from_is_err_and r e in subst (λ x. Listed x l) (sym p.1) (subst (λ y. Excess y l) (sym p.2) h)

-- unknown predicates, one fact at a time
module _ {T : Type 0} (ps : List Predicate) (view : T → Mention) (fs : List T) where
  abbrev pub Knowing : ℕ → Type 0
  Knowing i = unknowns ps (map view (drop i fs)) ≡ unknowns ps (map view fs)

  module _ (i : ℕ) (x : T) (h : i < length fs) (s : x ≡ get_or fs i x) (so : Knowing i) where
    knowing_at : cond (has ps (predicate_of (view x))) (unknowns ps (map view (drop (i + 1) fs))) (unknown_at (view x).place) ≡ unknowns ps (map view fs)
    knowing_at = sym (ap (λ l. unknowns ps (map view l)) (drop_more fs i x h ∙ ap (λ y. y ∷ drop (i + 1) fs) (sym s))) ∙ so

    pub knowing_more : has ps (predicate_of (view x)) ≡ true → Knowing (i + 1)
    knowing_more t = sym (cond-true (has ps (predicate_of (view x))) _ _ t) ∙ knowing_at

    pub knowing_not : has ps (predicate_of (view x)) ≡ false → unknowns ps (map view fs) ≡ unknown_at (view x).place
    knowing_not t = sym knowing_at ∙ cond-false (has ps (predicate_of (view x))) _ _ t

  pub knowing_all : (i : ℕ) → length fs ≤ i → Knowing i → unknowns ps (map view fs) ≡ all_known
  knowing_all i h so = sym so ∙ ap (λ l. unknowns ps (map view l)) (drop_all i fs h)
