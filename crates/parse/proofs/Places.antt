-- Words by their places. Assumes nothing.
use Rattle.std.proofs.Common.{◌≡◌, ℕ, ◌+◌, ◌<◌, ◌≤◌, true, List, [], ◌∷◌, map, length, get_or, drop, Option, Some, None, MatchOption, Bor, sym, refl, ap, ◌∙◌}
use Rattle.std.proofs.lemmas.List.{drop-map, drop_more, drop_all, drop-drop}
use Rattle.std.proofs.lemmas.Bool.{cond-true, false≢true}
use Rattle.syntax.specs.Syntax.{W, kind, sign, mem, ahead, ok}
use Rattle.syntax.specs.Parts.{mark}
use Rattle.parse.specs.declared.token.Token.{Token}
use Rattle.parse.specs.Tokens.{token_word, words, ahead_of}
use Rattle.std.specs.List.{HoldsAt}
use Rattle.std.specs.Option.{option_copied}

drop_word : (ts : List Token) (at : ℕ) (t : Token) → at < length ts → t ≡ get_or ts at t → drop at (words ts) ≡ token_word t ∷ drop (at + 1) (words ts)
drop_word ts at t h e = drop-map token_word at ts ∙ ap (map token_word) (drop_more ts at t h) ∙ ap (λ x. token_word x ∷ map token_word (drop (at + 1) ts)) (sym e) ∙ ap (λ r. token_word t ∷ r) (sym (drop-map token_word (at + 1) ts))

-- the word at a place, or the end
pub word_at : (ts : List Token) (at : ℕ) (o : Option (Bor Token)) → MatchOption o (length ts ≤ at) (λ x. (at < length ts) × HoldsAt (λ y. x.now ≡ y) ts at) → drop at (words ts) ≡ ahead_of (option_copied o) (drop (at + 1) (words ts))
word_at ts at None h = drop-map token_word at ts ∙ ap (map token_word) (drop_all at ts h)
word_at ts at (Some x) (h, e) = drop_word ts at x.now h (e x.now)

abbrev pub behind_one : {X : Type 0} → List X → List X
behind_one [] = []
behind_one (w ∷ r) = r

pub behind_drop : {X : Type 0} (n : ℕ) (l : List X) → behind_one (drop n l) ≡ drop (n + 1) l
behind_drop n l = one (drop n l) ∙ drop-drop 1 n l
  where
    one : {X : Type 0} (s : List X) → behind_one s ≡ drop 1 s
    one [] = refl
    one (w ∷ s) = refl

-- a mark that stands there is taken
pub mark_taken : (c at : ℕ) (l : List W) → ahead (kind (sign c) ∷ []) (drop at l) ≡ true → mark c (drop at l) ≡ ok tt (drop (at + 1) l)
mark_taken c at l h = go (drop at l) h ∙ ap (ok tt) (behind_drop at l)
  where
    go : (s : List W) → ahead (kind (sign c) ∷ []) s ≡ true → mark c s ≡ ok tt (behind_one s)
    go [] h = absurd (false≢true h)
    go (w ∷ r) h = cond-true (mem (kind (sign c) ∷ []) (kind w)) _ _ h
