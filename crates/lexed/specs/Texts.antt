-- The words of a text, as the grammar knows them before any is marked. Assumes nothing.
use Rattle.std.specs.Prelude.{◌≡◌, ℕ, zero, suc, List, [], ◌∷◌, map, length, Ok, Err, Result}
use Rattle.words.specs.declared.faults.LetterFault.{LetterFault}
use Rattle.words.specs.declared.faults.LetterFault.TheVariants.{NoWord, WordTooLong}
use Rattle.words.specs.Lex.{Read, end, word, stray, long, word_at}
use Rattle.syntax.specs.Syntax.{W}
use Rattle.syntax.specs.Marking.{Raw}
use Rattle.parse.specs.declared.token.Token.{Token}
use Rattle.parse.specs.Raw.{raw_word}

-- how a text ends: at its last byte, whose number of bytes is told, or at a fault of its letters
abbrev pub Ending : Type 0
Ending = Result ℕ LetterFault

-- the words of a text with their places, up to its end or its first fault
abbrev pub Cut : Type 0
Cut = List (ℕ × W) × Ending

abbrev pub before : ℕ × W → Cut → Cut
before w c = (w ∷ c.0, c.1)

-- what is met at a place, and the rest from where it ends
abbrev pub met : List ℕ → (ℕ → Cut) → Read → Cut
met text rest (end p) = ([], Ok (length text))
met text rest (word l s e) = before (s, raw_word s l) (rest e)
met text rest (stray p s) = ([], Err (NoWord p))
met text rest (long p s) = ([], Err (WordTooLong p))

-- at most so many words from a place on
abbrev pub words_from : ℕ → List ℕ → ℕ → Cut
words_from zero text at = ([], Ok (length text))
words_from (suc k) text at = met text (words_from k text) (word_at text at)

-- each word has a byte at least, so there are at most as many as bytes
abbrev pub turns : List ℕ → ℕ
turns text = length text

-- all words from a place on
abbrev pub words_at : List ℕ → ℕ → Cut
words_at text at = words_from (turns text) text at

-- all words of a text
unfoldable pub text_words : List ℕ → Cut
text_words text = words_at text 0

-- no word is missed: what is read from a place on is what is met there, and behind a word what is read from where it ends
abbrev pub WordByWord : Type 0
WordByWord = (text : List ℕ) (at : ℕ) → words_at text at ≡ met text (words_at text) (word_at text at)

-- the words alone, and the places alone
abbrev pub raw_words : List ℕ → List W
raw_words text = map (λ w. w.1) (text_words text).0

abbrev pub word_places : List ℕ → List ℕ
word_places text = map (λ w. w.0) (text_words text).0

-- no word of a text is marked yet
abbrev pub Unmarked : Type 0
Unmarked = (text : List ℕ) → Raw (raw_words text)

abbrev pub places : List Token → List ℕ
places ts = map (λ t. t.place) ts
