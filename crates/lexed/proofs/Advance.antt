-- Each word takes a byte at least, so no word is missed. Assumes nothing.
use Rattle.std.proofs.Common.{◌≡◌, ℕ, zero, suc, ◌+◌, ◌<◌, ◌≤◌, Bool, true, false, cond, ◌&&◌, eqb, ltb, leb, List, [], length, get_or, take, drop, Some, None, Ok, Option, sym, refl, ap, subst, arith, lit<}
use Rattle.std.specs.List.{prefix_len}
use Rattle.std.proofs.lemmas.List.Sums.{prefix_len-drop_yes}
use Rattle.std.proofs.lemmas.Bool.{ltb-true, le-ltb, and_parts, cond_both, cond-false}
use Rattle.words.specs.Bytes.{white, lower, upper, digit, inner, sort}
use Rattle.words.specs.Bytes as bytes
use Rattle.words.specs.Marks.{mark_of}
use Rattle.words.specs.declared.marks.Mark.{Mark}
use Rattle.words.specs.declared.marks.Mark.TheVariants as mark
use Rattle.words.specs.declared.sorts.Sort.{Sort}
use Rattle.words.specs.declared.sorts.Sort.TheVariants as sorts
use Rattle.words.specs.Lex.{Lexeme, name, variable, number, Read, end, word, stray, long, value, fits, read_name, number_part, signed, by_sort, word_at}
use Rattle.lexed.specs.Texts.{met, words_from, turns, WordByWord}

-- a word ends behind a place
abbrev Moves : ℕ → Read → Type 0
Moves at (end p) = Unit {0}
Moves at (word l s e) = at < e
Moves at (stray p s) = Unit {0}
Moves at (long p s) = Unit {0}

sooner : (at s : ℕ) (r : Read) → at ≤ s → Moves s r → Moves at r
sooner at s (end p) h m = tt
sooner at s (word l q e) h m = omega arith
sooner at s (stray p q) h m = tt
sooner at s (long p q) h m = tt

-- a mark has a byte at least
abbrev Width : Option (Mark × ℕ) → Type 0
Width None = Unit {0}
Width (Some m) = 0 < m.1

record Wide (o : Option (Mark × ℕ)) : Type 0 where
  width : Width o

none : Wide None
none = record { width = tt }

wide : (m : Mark) (n : ℕ) → 0 < n → Wide (Some (m, n))
wide m n h = record { width = h }

either : (b : Bool) {x y : Option (Mark × ℕ)} → Wide x → Wide y → Wide (cond b x y)
either true p q = p
either false p q = q

wide_mark : (a b c : ℕ) → Wide (mark_of a b c)
wide_mark a b c =
    either (eqb a 60 && (eqb b 61 && eqb c 62)) (wide mark.Simplify 3 (lit< tt)) (
    either (eqb a 61 && (eqb b 61 && eqb c 62)) (wide mark.Propagate 3 (lit< tt)) (
    either (eqb a 63 && eqb b 45) (wide mark.Ask 2 (lit< tt)) (
    either (eqb a 61 && eqb b 60) (wide mark.AtMost 2 (lit< tt)) (
    either (eqb a 62 && eqb b 61) (wide mark.AtLeast 2 (lit< tt)) (
    either (eqb a 92 && eqb b 61) (wide mark.Different 2 (lit< tt)) (
    either (eqb a 64) (wide mark.At 1 (lit< tt)) (
    either (eqb a 44) (wide mark.Comma 1 (lit< tt)) (
    either (eqb a 46) (wide mark.Dot 1 (lit< tt)) (
    either (eqb a 59) (wide mark.Semicolon 1 (lit< tt)) (
    either (eqb a 124) (wide mark.Bar 1 (lit< tt)) (
    either (eqb a 92) (wide mark.Backslash 1 (lit< tt)) (
    either (eqb a 40) (wide mark.Open 1 (lit< tt)) (
    either (eqb a 41) (wide mark.Close 1 (lit< tt)) (
    either (eqb a 43) (wide mark.Plus 1 (lit< tt)) (
    either (eqb a 45) (wide mark.Minus 1 (lit< tt)) (
    either (eqb a 58) (wide mark.Colon 1 (lit< tt)) (
    either (eqb a 35) (wide mark.Hash 1 (lit< tt)) (
    either (eqb a 60) (wide mark.Less 1 (lit< tt)) (
    either (eqb a 61) (wide mark.Equal 1 (lit< tt)) (
    either (eqb a 62) (wide mark.Greater 1 (lit< tt)) (none)))))))))))))))))))))

moves_signed : (o : Option (Mark × ℕ)) (s : ℕ) → Wide o → Moves s (signed o s)
moves_signed None s w = tt
moves_signed (Some m) s w = omega (arith, w.width)

moves_name : (f : List ℕ → Lexeme) (bs : List ℕ) (s : ℕ) → Moves s (read_name f bs s)
moves_name f bs s =
    let k = prefix_len inner bs in
    cond_both (fits k) (word (f (take k bs)) s (s + k)) (long s s) (Moves s) (λ e. omega (arith, ltb-true 0 k (and_parts (ltb 0 k) (leb k 12) e).0)) (λ e. tt)

moves_number : (n : ℕ) (bs : List ℕ) (s : ℕ) → 0 < n → Moves s (number_part n bs s)
moves_number n bs s h =
    let v = value (take n bs) in
    cond_both (leb n 10) (cond (leb v 1000000000) (word (number v) s (s + n)) (long s s)) (long s s) (Moves s)
    (λ e. cond_both (leb v 1000000000) (word (number v) s (s + n)) (long s s) (Moves s) (λ d. omega arith) (λ d. tt))
    (λ e. tt)

moves_sort : (text : List ℕ) (s : ℕ) → s < length text → Moves s (by_sort (sort (get_or text s 0)) text s)
moves_sort text s h =
    let b = get_or text s 0 in
    let P : Sort → Type 0 = λ k. Moves s (by_sort k text s) in
    cond_both (white b) sorts.White (cond (lower b) sorts.Name (cond (upper b) sorts.Variable (cond (digit b) sorts.Number (cond (bytes.mark b) sorts.Mark sorts.Other)))) P (λ _. tt) (λ _.
    cond_both (lower b) sorts.Name (cond (upper b) sorts.Variable (cond (digit b) sorts.Number (cond (bytes.mark b) sorts.Mark sorts.Other))) P (λ _. moves_name name (drop s text) s) (λ _.
    cond_both (upper b) sorts.Variable (cond (digit b) sorts.Number (cond (bytes.mark b) sorts.Mark sorts.Other)) P (λ _. moves_name variable (drop s text) s) (λ _.
    cond_both (digit b) sorts.Number (cond (bytes.mark b) sorts.Mark sorts.Other) P (λ e. moves_number (prefix_len digit (drop s text)) (drop s text) s (omega (arith, prefix_len-drop_yes digit text s 0 h e))) (λ _.
    cond_both (bytes.mark b) sorts.Mark sorts.Other P (λ _. moves_signed (mark_of b (get_or text (s + 1) 0) (get_or text (s + 2) 0)) s (wide_mark b (get_or text (s + 1) 0) (get_or text (s + 2) 0))) (λ _. tt)))))

moves : (text : List ℕ) (at : ℕ) → Moves at (word_at text at)
moves text at =
    let s = at + prefix_len white (drop at text) in
    cond_both (ltb s (length text)) (by_sort (sort (get_or text s 0)) text s) (end s) (Moves at)
    (λ e. let h : at ≤ s = omega arith in sooner at s (by_sort (sort (get_or text s 0)) text s) h (moves_sort text s (ltb-true s (length text) e)))
    (λ e. tt)

past : (text : List ℕ) (k at : ℕ) → length text ≤ at → words_from (suc k) text at ≡ ([], Ok (length text))
past text k at h =
    let s = at + prefix_len white (drop at text) in
    let l : length text ≤ s = omega arith in
    ap (met text (words_from k text)) (cond-false (ltb s (length text)) (by_sort (sort (get_or text s 0)) text s) (end s) (le-ltb s (length text) l))

onward : (text : List ℕ) (at k m : ℕ) (r : Read) → Moves at r → ((e : ℕ) → at < e → words_from k text e ≡ words_from m text e) → met text (words_from k text) r ≡ met text (words_from m text) r
onward text at k m (end p) v so = refl
onward text at k m (word l s e) v so = ap (λ c. met text (λ _. c) (word l s e)) (so e v)
onward text at k m (stray p s) v so = refl
onward text at k m (long p s) v so = refl

-- with turns enough, more of them change nothing
enough : (text : List ℕ) (k m at : ℕ) → length text ≤ at + k → length text ≤ at + m → words_from k text at ≡ words_from m text at
enough text zero zero at h g = refl
enough text zero (suc m) at h g = let l : length text ≤ at = omega arith in sym (past text m at l)
enough text (suc k) zero at h g = let l : length text ≤ at = omega arith in past text k at l
enough text (suc k) (suc m) at h g = onward text at k m (word_at text at) (moves text at) (λ e v. enough text k m e (omega arith) (omega arith))

pub word_by_word : WordByWord
word_by_word text at = enough text (turns text) (suc (turns text)) at (omega arith) (omega arith)

-- a word read from a place on ends behind it
pub ends_behind : (text : List ℕ) (at : ℕ) (l : Lexeme) (s e : ℕ) → word l s e ≡ word_at text at → at < e
ends_behind text at l s e h = subst (Moves at) (sym h) (moves text at)
