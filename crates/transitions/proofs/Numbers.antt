-- The numbers of a text are at most 1,000,000,000. Assumes nothing.
use Rattle.std.proofs.Common.{◌≡◌, ℕ, zero, suc, ◌+◌, ◌≤◌, Bool, true, false, cond, ◌&&◌, ltb, leb, List, [], ◌∷◌, ◌++◌, map, length, get_or, take, drop, pos, neg_ℤ, Option, refl, arith, le→leb}
use Rattle.std.proofs.lemmas.Bool.{leb-true}
use Rattle.std.specs.List.{prefix_len}
use Rattle.std.specs.declared.option.Option.TheVariants as option
use Rattle.words.specs.declared.marks.Mark.{Mark}
use Rattle.words.specs.declared.sorts.Sort.{Sort}
use Rattle.words.specs.declared.sorts.Sort.TheVariants as sorts
use Rattle.words.specs.Bytes.{sort, white, inner, digit}
use Rattle.words.specs.Marks.{mark_of}
use Rattle.words.specs.Lex.{Lexeme, Read, end, word, stray, long, fits, read_name, number_part, signed, by_sort, word_at}
use Rattle.words.specs.Lex as lex
use Rattle.syntax.specs.Syntax.{W, name, var, num, weight, sign, kind, Note, fine, Said, plain, ahead}
use Rattle.syntax.specs.Marks.{colon, true_word, fail_word}
use Rattle.syntax.specs.Marking.{marked_word, starts_behind, marked_from, marked}
use Rattle.syntax.specs.Parts.{Some, last, more, say_parts}
use Rattle.syntax.specs.Tree as tree
use Rattle.syntax.specs.Grammar.{Scope, same, same_name, true_name, fail_name, count, say_number}
use Rattle.parse.specs.Flaws.{listed}
use Rattle.parse.specs.Flat as flat
use Rattle.parse.specs.Raw.{name_word}
use Rattle.lexed.specs.Texts.{Cut, met, words_from, turns, text_words, raw_words}
use Rattle.steps.specs.Relations.{In, here, there, Every, every_none, every_more, Within}

-- a number among the words is that small
abbrev pub SmallWord : W → Type 0
SmallWord (name p s) = Unit {0}
SmallWord (var v) = Unit {0}
SmallWord (num n) = n ≤ 1000000000
SmallWord (weight n) = Unit {0}
SmallWord (sign m) = Unit {0}

abbrev SmallRead : Read → Type 0
SmallRead (end p) = Unit {0}
SmallRead (word (lex.name s) b e) = Unit {0}
SmallRead (word (lex.variable s) b e) = Unit {0}
SmallRead (word (lex.number n) b e) = n ≤ 1000000000
SmallRead (word (lex.sign m) b e) = Unit {0}
SmallRead (stray p s) = Unit {0}
SmallRead (long p s) = Unit {0}

number_small : (n : ℕ) (bs : List ℕ) (s : ℕ) → SmallRead (number_part n bs s)
number_small n bs s = at (leb n 10) (leb (lex.value (take n bs)) 1000000000) refl
  where
    at : (b c : Bool) → leb (lex.value (take n bs)) 1000000000 ≡ c → SmallRead (cond b (cond c (word (lex.number (lex.value (take n bs))) s (s + n)) (long s s)) (long s s))
    at true true e = leb-true (lex.value (take n bs)) 1000000000 e
    at true false e = tt
    at false c e = tt

name_small : (f : List ℕ → Lexeme) → ((x : List ℕ) (b e : ℕ) → SmallRead (word (f x) b e)) → (bs : List ℕ) (s : ℕ) → SmallRead (read_name f bs s)
name_small f g bs s = at (fits (prefix_len inner bs))
  where
    at : (b : Bool) → SmallRead (cond b (word (f (take (prefix_len inner bs) bs)) s (s + prefix_len inner bs)) (long s s))
    at true = g (take (prefix_len inner bs) bs) s (s + prefix_len inner bs)
    at false = tt

mark_small : (o : Option (Mark × ℕ)) (s : ℕ) → SmallRead (signed o s)
mark_small option.None s = tt
mark_small (option.Some m) s = tt

sort_small : (k : Sort) (text : List ℕ) (s : ℕ) → SmallRead (by_sort k text s)
sort_small sorts.White text s = tt
sort_small sorts.Name text s = name_small lex.name (λ x b e. tt) (drop s text) s
sort_small sorts.Variable text s = name_small lex.variable (λ x b e. tt) (drop s text) s
sort_small sorts.Number text s = number_small (prefix_len digit (drop s text)) (drop s text) s
sort_small sorts.Mark text s = mark_small (mark_of (get_or text s 0) (get_or text (s + 1) 0) (get_or text (s + 2) 0)) s
sort_small sorts.Other text s = tt

read_small : (text : List ℕ) (s : ℕ) → SmallRead (lex.read_from text s)
read_small text s = at (ltb s (length text))
  where
    at : (b : Bool) → SmallRead (cond b (by_sort (sort (get_or text s 0)) text s) (end s))
    at true = sort_small (sort (get_or text s 0)) text s
    at false = tt

-- a name is a name or one of two marks
named_small : (p : ℕ) (s : List ℕ) → SmallWord (name_word p s)
named_small p s = at (same_name s true_name) (same_name s fail_name)
  where
    at : (b c : Bool) → SmallWord (cond b (sign true_word) (cond c (sign fail_word) (name p s)))
    at true c = tt
    at false true = tt
    at false false = tt

met_small : (text : List ℕ) (rest : ℕ → Cut) → ((e : ℕ) → Every (λ w. SmallWord w.1) (rest e).0) → (r : Read) → SmallRead r → Every (λ w. SmallWord w.1) (met text rest r).0
met_small text rest f (end p) k = every_none
met_small text rest f (word (lex.name s) b e) k = every_more (named_small b s) (f e)
met_small text rest f (word (lex.variable s) b e) k = every_more tt (f e)
met_small text rest f (word (lex.number n) b e) k = every_more k (f e)
met_small text rest f (word (lex.sign m) b e) k = every_more tt (f e)
met_small text rest f (stray p s) k = every_none
met_small text rest f (long p s) k = every_none

from_small : (k : ℕ) (text : List ℕ) (at : ℕ) → Every (λ w. SmallWord w.1) (words_from k text at).0
from_small zero text at = every_none
from_small (suc k) text at = met_small text (words_from k text) (λ e. from_small k text e) (word_at text at) (read_small text (at + prefix_len white (drop at text)))

every_second : (ws : List (ℕ × W)) → Every (λ w. SmallWord w.1) ws → Every SmallWord (map (λ w. w.1) ws)
every_second [] every_none = every_none
every_second (w ∷ ws) (every_more k ks) = every_more k (every_second ws ks)

raw_small : (text : List ℕ) → Every SmallWord (raw_words text)
unfolding text_words
raw_small text = every_second (text_words text).0 (from_small (turns text) text 0)

-- marking keeps the numbers
word_small : (b : Bool) (w : W) (r : List W) → SmallWord w → SmallWord (marked_word b w r)
word_small b (name p s) r k = tt
word_small b (var v) r k = tt
word_small b (num n) r k = at (b && ahead (kind (sign colon) ∷ []) r)
  where
    at : (c : Bool) → SmallWord (cond c (weight n) (num n))
    at true = tt
    at false = k
word_small b (weight n) r k = tt
word_small b (sign m) r k = tt

marked_small : (b : Bool) (ws : List W) → Every SmallWord ws → Every SmallWord (marked_from b ws)
marked_small b [] every_none = every_none
marked_small b (w ∷ ws) (every_more k ks) = every_more (word_small b w ws k) (marked_small (starts_behind w ws) ws ks)

pub words_small : (text : List ℕ) → Every SmallWord (marked (raw_words text))
words_small text = marked_small false (raw_words text) (raw_small text)

-- what a part says, within what is said
abbrev pub SmallSaid : Said → Type 0
SmallSaid s = Every SmallWord (plain s)

pub said_left : (a b : Said) → SmallSaid (a ++ b) → SmallSaid a
said_left [] b k = every_none
said_left (x ∷ a) b (every_more q k) = every_more q (said_left a b k)

pub said_right : (a b : Said) → SmallSaid (a ++ b) → SmallSaid b
said_right [] b k = k
said_right (x ∷ a) b (every_more q k) = said_right a b k

pub said_rest : (x : W × Note) (a : Said) → SmallSaid (x ∷ a) → SmallSaid a
said_rest x a (every_more q k) = k

pub said_part : {X : Type 0} (sep : ℕ) (say : Scope → X → Said) (σ : Scope) (k : ℕ) (xs : Some X) {x : X} → count xs ≤ k → SmallSaid (say_parts sep say same k σ xs) → In x (listed xs) → SmallSaid (say σ x)
said_part sep say σ zero (last x) l s m = absurd (omega arith)
said_part sep say σ zero (more x xs) l s m = absurd (omega arith)
said_part sep say σ (suc k) (last x) l s here = s
said_part sep say σ (suc k) (last x) l s (there m) = elim m [ ]
said_part sep say σ (suc k) (more x xs) l s here = said_left (say σ x) ((sign sep, fine) ∷ say_parts sep say same k σ xs) s
said_part sep say σ (suc k) (more x xs) l s (there m) =
    said_part sep say σ k xs (omega arith) (said_rest (sign sep, fine) (say_parts sep say same k σ xs) (said_right (say σ x) ((sign sep, fine) ∷ say_parts sep say same k σ xs) s)) m

first_small : {w : W} {ws : List W} → Every SmallWord (w ∷ ws) → SmallWord w
first_small (every_more k ks) = k

second_small : {v w : W} {ws : List W} → Every SmallWord (v ∷ w ∷ ws) → SmallWord w
second_small (every_more j (every_more k ks)) = k

below_zero : (n : ℕ) → n ≤ 1000000000 → Within (neg_ℤ (pos n))
below_zero zero k = (record { le = tt }, record { le = tt })
below_zero (suc n) k = (record { le = le→leb n 999999999 (omega arith) }, record { le = tt })

pub number_within : (n : tree.Number) → SmallSaid (say_number n) → Within (flat.signed n)
number_within (tree.positive n) s = (record { le = tt }, record { le = le→leb n 1000000000 (first_small s) })
number_within (tree.negative n) s = below_zero n (second_small s)
