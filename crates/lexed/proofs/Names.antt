-- Words as they come from a text: `true` and `fail` are told from other names, and none is marked. Assumes nothing.
use Rattle.std.proofs.Common.{◌≡◌, ℕ, zero, suc, cond, List, map, length, refl}
use Rattle.std.proofs.lemmas.Bool.{cond_both}
use Rattle.words.specs.declared.marks.Mark.{Mark}
use Rattle.words.specs.declared.marks.Mark.TheVariants as mark
use Rattle.words.specs.Lex.{Read, end, word, stray, long, word_at}
use Rattle.words.specs.Lex as lex
use Rattle.syntax.specs.Syntax.{W, name, sign}
use Rattle.syntax.specs.Marking.{written_word, Raw}
use Rattle.syntax.specs.Marks.{true_word, fail_word}
use Rattle.syntax.specs.Grammar.{same_name, true_name, fail_name}
use Rattle.parse.specs.Raw.{mark_code, raw_word}
use Rattle.lexed.specs.Texts.{Cut, met, words_from, text_words, Unmarked}

mark_unmarked : (m : Mark) → written_word (sign (mark_code m)) ≡ sign (mark_code m)
mark_unmarked mark.At = refl
mark_unmarked mark.Comma = refl
mark_unmarked mark.Dot = refl
mark_unmarked mark.Semicolon = refl
mark_unmarked mark.Bar = refl
mark_unmarked mark.Backslash = refl
mark_unmarked mark.Open = refl
mark_unmarked mark.Close = refl
mark_unmarked mark.Plus = refl
mark_unmarked mark.Minus = refl
mark_unmarked mark.Colon = refl
mark_unmarked mark.Hash = refl
mark_unmarked mark.Ask = refl
mark_unmarked mark.Simplify = refl
mark_unmarked mark.Propagate = refl
mark_unmarked mark.Less = refl
mark_unmarked mark.AtMost = refl
mark_unmarked mark.Equal = refl
mark_unmarked mark.AtLeast = refl
mark_unmarked mark.Greater = refl
mark_unmarked mark.Different = refl

word_unmarked : (p : ℕ) (l : lex.Lexeme) → written_word (raw_word p l) ≡ raw_word p l
word_unmarked p (lex.name s) =
    let P : W → Type 0 = λ w. written_word w ≡ w in
    cond_both (same_name s true_name) (sign true_word) (cond (same_name s fail_name) (sign fail_word) (name p s)) P (λ _. refl)
    (λ _. cond_both (same_name s fail_name) (sign fail_word) (name p s) P (λ _. refl) (λ _. refl))
word_unmarked p (lex.variable s) = refl
word_unmarked p (lex.number n) = refl
word_unmarked p (lex.sign m) = mark_unmarked m

abbrev Plain : Cut → Type 0
Plain c = Raw (map (λ w. w.1) c.0)

met_unmarked : (text : List ℕ) (rest : ℕ → Cut) (r : Read) → ((e : ℕ) → Plain (rest e)) → Plain (met text rest r)
met_unmarked text rest (end p) so = tt
met_unmarked text rest (word (lex.sign mark.Simplify) s e) so = (refl, so e)
met_unmarked text rest (word l s e) so = (word_unmarked s l, so e)
met_unmarked text rest (stray p s) so = tt
met_unmarked text rest (long p s) so = tt

from_unmarked : (k : ℕ) (text : List ℕ) (at : ℕ) → Plain (words_from k text at)
from_unmarked zero text at = tt
from_unmarked (suc k) text at = met_unmarked text (words_from k text) (word_at text at) (λ e. from_unmarked k text e)

pub unmarked : Unmarked
unfolding text_words
unmarked text = from_unmarked (length text) text 0
