-- The backward pass that marks words: what is behind an index is marked, what is before it is as it was. Assumes nothing.
use Rattle.std.proofs.Common.{◌≡◌, ℕ, zero, suc, ◌+◌, ◌-◌, ◌<◌, ◌≤◌, Bool, false, List, [], ◌∷◌, length, get_or, take, drop, set, sym, refl, ap, ◌∙◌, arith, drop-cons}
use Rattle.std.proofs.lemmas.List.{length-map, drop_all, drop-set, take-set, take-take, get_or-take, take-map, get_or-map, map-set, set-get_or}
use Rattle.syntax.specs.Syntax.{W, name, var, num, weight, sign, kind, ahead}
use Rattle.syntax.specs.Marks.{colon}
use Rattle.syntax.specs.Marking.{is_mark, guard_ahead, marked_word, starts_behind, marked_from, marked}
use Rattle.parse.specs.declared.token.Token.{Token}
use Rattle.parse.specs.Tokens.{token_word, words}
use Rattle.lexed.specs.Looks.{guard_ahead_from, begins_after, begins_at, marked_by}
use Rattle.lexed.specs.Texts.{places}

-- a word's mark depends on three facts of the words around it
by_known : (s : Bool) (w : W) (r : List W) → marked_by s (ahead (kind (sign colon) ∷ []) r) (guard_ahead r) w ≡ marked_word s w r
by_known s (name p b) r = refl
by_known s (var v) r = refl
by_known s (num n) r = refl
by_known s (weight n) r = refl
by_known s (sign m) r = refl

-- whether an alternative may begin depends on the words before only
starts_front : (j : ℕ) (xs ys : List W) (g : Bool) → take j xs ≡ take j ys → begins_at xs j g ≡ begins_at ys j g
starts_front zero xs ys g e = refl
starts_front (suc k) xs ys g e =
    let h : k < suc k = omega arith in
    ap (λ w. begins_after w g) (sym (get_or-take (suc k) xs k (num 0) h) ∙ ap (λ l. get_or l k (num 0)) e ∙ get_or-take (suc k) ys k (num 0) h)

pub starts_read : (ts : List Token) (at : ℕ) (g : Bool) (x : Token) → (at ≡ 0 → ⊥) → at ≤ length ts → x ≡ get_or ts (at - 1) x → begins_after (token_word x) g ≡ begins_at (words ts) at g
starts_read ts zero g x n h is = absurd (n refl)
starts_read ts (suc k) g x n h is =
    let e : suc k - 1 ≡ k = omega arith in
    let l : k < length ts = omega arith in
    ap (λ w. begins_after w g) (ap token_word (is ∙ ap (λ i. get_or ts i x) e) ∙ sym (get_or-map token_word ts k x (num 0) l))

-- es are the tokens at first, ts those now; all from the index on are marked
abbrev pub MarkedFrom : List Token → List Token → Bool → Bool → ℕ → Type 0
MarkedFrom es ts next guard i =
    (take i ts ≡ take i es)
    × (words (drop i ts) ≡ marked_from (begins_at (words es) i (guard_ahead (drop i (words es)))) (drop i (words es)))
    × (places ts ≡ places es)
    × (next ≡ ahead (kind (sign colon) ∷ []) (drop i (words es)))
    × (guard ≡ guard_ahead (drop i (words es)))

pub marked_none : (es : List Token) → MarkedFrom es es false false (length es)
marked_none es =
    let n = length es in
    let le : length es ≤ n = omega arith in
    let lw : length (words es) ≤ n = omega (arith, length-map es token_word) in
    let e = drop_all n (words es) lw in (
      refl,
      ap words (drop_all n es le) ∙ sym (ap (λ d. marked_from (begins_at (words es) n (guard_ahead d)) d) e),
      refl,
      sym (ap (λ d. ahead (kind (sign colon) ∷ []) d) e),
      sym (ap guard_ahead e),
    )

pub marked_all : (es ts : List Token) (next guard : Bool) (i : ℕ) → i ≤ 0 → MarkedFrom es ts next guard i → (words ts ≡ marked (words es)) × (places ts ≡ places es)
marked_all es ts next guard zero h inv = (inv.1, inv.2)
marked_all es ts next guard (suc i) h inv = let z : ⊥ = omega arith in absurd z

module _ (es ts : List Token) (next guard : Bool) (j : ℕ) (t : Token) (inv : MarkedFrom es ts next guard (suc j)) (long : length ts ≡ length es) (h : j < length es) (is : t ≡ get_or ts j t) where
  lt : j < suc j
  lt = omega arith

  inside : j < length ts
  inside = omega arith

  -- the word is still as it was
  same : t ≡ get_or es j t
  same = is ∙ sym (get_or-take (suc j) ts j t lt) ∙ ap (λ l. get_or l j t) inv.0 ∙ get_or-take (suc j) es j t lt

  here : get_or (words es) j (num 0) ≡ token_word t
  here = get_or-map token_word es j t (num 0) h ∙ ap token_word (sym same)

  opened : drop j (words es) ≡ token_word t ∷ drop (suc j) (words es)
  opened =
      let hw : j < length (words es) = omega (arith, length-map es token_word) in
      drop-cons (words es) j (num 0) hw ∙ ap (λ w. w ∷ drop (suc j) (words es)) here

  front : take j ts ≡ take j es
  front =
      let le : j ≤ suc j = omega arith in
      sym (take-take j (suc j) ts le) ∙ ap (take j) inv.0 ∙ take-take j (suc j) es le

  module _ (t' : Token) (next' guard' starts : Bool) (g : guard' ≡ guard_ahead_from (token_word t) guard) (s : starts ≡ begins_at (words ts) j guard') (w : token_word t' ≡ marked_by starts next guard (token_word t)) (p : t'.place ≡ t.place) (n : next' ≡ is_mark colon (token_word t)) where
    guarding : guard' ≡ guard_ahead (drop j (words es))
    guarding = g ∙ ap (guard_ahead_from (token_word t)) inv.4 ∙ sym (ap guard_ahead opened)

    starting : starts ≡ begins_at (words es) j (guard_ahead (drop j (words es)))
    starting =
        s ∙ starts_front j (words ts) (words es) guard' (take-map token_word j ts ∙ ap words front ∙ sym (take-map token_word j es))
        ∙ ap (begins_at (words es) j) guarding

    placing : places (set ts j t') ≡ places ts
    placing =
        map-set (λ x. x.place) ts j t'
        ∙ ap (λ x. set (places ts) j x) (p ∙ ap (λ x. x.place) is ∙ sym (get_or-map (λ x. x.place) ts j t 0 inside))
        ∙ set-get_or (places ts) j 0

    -- the word as marked
    marking : token_word t' ≡ marked_word (begins_at (words es) j (guard_ahead (drop j (words es)))) (token_word t) (drop (suc j) (words es))
    marking =
        w ∙ ap (λ b. marked_by b next guard (token_word t)) starting
        ∙ ap (λ b. marked_by (begins_at (words es) j (guard_ahead (drop j (words es)))) b guard (token_word t)) inv.3
        ∙ ap (λ b. marked_by (begins_at (words es) j (guard_ahead (drop j (words es)))) (ahead (kind (sign colon) ∷ []) (drop (suc j) (words es))) b (token_word t)) inv.4
        ∙ by_known _ (token_word t) (drop (suc j) (words es))

    -- the words behind it
    rest : words (drop (suc j) ts) ≡ marked_from (starts_behind (token_word t) (drop (suc j) (words es))) (drop (suc j) (words es))
    rest = inv.1 ∙ ap (λ x. marked_from (begins_after x (guard_ahead (drop (suc j) (words es)))) (drop (suc j) (words es))) here

    pub marked_more : MarkedFrom es (set ts j t') next' guard' j
    marked_more =
        let k : j + 1 ≡ suc j = omega arith in (
          take-set ts j t' ∙ front,
          ap words (drop-set ts j t' inside ∙ ap (λ i. t' ∷ drop i ts) k)
              ∙ ap (λ x. x ∷ words (drop (suc j) ts)) marking
              ∙ ap (λ r. marked_word (begins_at (words es) j (guard_ahead (drop j (words es)))) (token_word t) (drop (suc j) (words es)) ∷ r) rest
              ∙ sym (ap (λ d. marked_from (begins_at (words es) j (guard_ahead (drop j (words es)))) d) opened),
          placing ∙ inv.2,
          n ∙ sym (ap (λ d. ahead (kind (sign colon) ∷ []) d) opened),
          guarding,
        )
