-- How the end of the words is told in each layer. Assumes nothing.
use Rattle.std.specs.Prelude.{◌≡◌, ℕ, ◌<◌, ◌≤◌, true, false, List, length, Ok, Err, Result, nat_lt, slice_index}
use Rattle.words.specs.declared.faults.LetterFault.{LetterFault}
use Rattle.words.specs.declared.faults.LetterFault.TheVariants.{TextTooLong}
use Rattle.syntax.specs.Marking.{marked}
use Rattle.parse.specs.declared.flaw.Flaw.{Flaw}
use Rattle.parse.specs.Tokens.{words}
use Rattle.lexed.specs.declared.text.Tokens.{Tokens}
use Rattle.lexed.specs.Texts.{Ending, raw_words, word_places, text_words, places}
use Rattle.book.specs.declared.faults.GrammarFault.{GrammarFault}
use Rattle.book.specs.declared.faults.GrammarFault.TheVariants.{Letter, Barred}
use Rattle.book.specs.declared.faults.BookFault.{BookFault}
use Rattle.book.specs.declared.faults.BookFault.TheVariants.{Grammar, Unbound, Reused, InGoal, Unknown, Memory}
use Rattle.book.specs.Reading.{end_refusal, refusal_of, Located}

-- the text's length, or the fault of letters that ends it, in the grammar's layer
abbrev pub BarredEnd : Ending → Result ℕ GrammarFault → Type 0
BarredEnd (Ok n) (Ok m) = m ≡ n
BarredEnd (Ok n) (Err d) = ⊥
BarredEnd (Err e) (Ok m) = ⊥
BarredEnd (Err e) (Err d) = d ≡ Letter e

-- the fault of words that end too early
abbrev pub AtEnd : Ending → GrammarFault → Type 0
AtEnd (Ok n) r = r ≡ Barred n
AtEnd (Err e) r = r ≡ Letter e

-- a text within its limit, or the fault at the limit
abbrev pub FitsWithin : ℕ → ℕ → Result (Unit {0}) GrammarFault → Type 0
FitsWithin n limit (Ok u) = n ≤ limit
FitsWithin n limit (Err e) = (limit < n) × (e ≡ Letter (TextTooLong limit))

-- where the word at an index stands, or the fault of words that end too early
abbrev pub Placed : List ℕ → Ending → ℕ → Result ℕ GrammarFault → Type 0
Placed places end i (Ok p) = (nat_lt i (length places) ≡ true) × (slice_index places i ≡ p)
Placed places end i (Err e) = (nat_lt i (length places) ≡ false) × (end_refusal end ≡ refusal_of (Grammar e))

-- a fault of the text, in either layer
abbrev pub fault_of : Result BookFault GrammarFault → BookFault
fault_of (Ok e) = e
fault_of (Err e) = Grammar e

-- the tokens are the words of the text as marked, with their places, up to its end
pub record AreWords (text : List ℕ) (t : Tokens) : Type 0 where
  pub words : words t.list.items ≡ marked (raw_words text)
  pub places : places t.list.items ≡ word_places text
  pub ending : t.ending ≡ (text_words text).1

-- no words: the text is longer than its limit, and the fault lies there; or memory is wanting, which says nothing of the text
abbrev pub Wordless : List ℕ → ℕ → BookFault → Type 0
Wordless text most (Grammar e) = (most < length text) × (e ≡ Letter (TextTooLong most))
Wordless text most (Unbound p) = ⊥
Wordless text most (Reused p) = ⊥
Wordless text most (InGoal p) = ⊥
Wordless text most (Unknown p) = ⊥
Wordless text most Memory = Unit {0}

-- the words of a text within its limit, or why there are none
abbrev pub WordsTold : List ℕ → ℕ → Result Tokens BookFault → Type 0
WordsTold text most (Ok t) = (length text ≤ most) × AreWords text t
WordsTold text most (Err e) = Wordless text most e

-- what was said, of a text that ends well; or the fault of the letters that end it, or where the flaw lies
abbrev pub Told : {T : Type 0} → List ℕ → Ending → Result T Flaw → Result T BookFault → Type 0
Told places end (Ok x) (Ok y) = (y ≡ x) × ((n : ℕ) × (end ≡ Ok n))
Told places end (Ok x) (Err e) = (l : LetterFault) × (end ≡ Err l) × (e ≡ Grammar (Letter l))
Told places end (Err f) (Ok y) = ⊥
Told places end (Err f) (Err e) = Located places end f e
