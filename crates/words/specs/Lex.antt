-- The word at a place of a text. Assumes nothing.
use Rattle.std.specs.Prelude.{ℕ, ◌+◌, ◌-◌, ◌*◌, Bool, cond, ◌&&◌, List, length, take, drop, Some, None, Ok, Err, fold, Option, Result, nat_le, nat_lt, slice_index}
use Rattle.std.specs.List.{prefix_len}
use Rattle.words.specs.Bytes.{sort, white, inner, digit}
use Rattle.words.specs.Marks.{mark_of}
use Rattle.words.specs.declared.marks.Mark.{Mark}
use Rattle.words.specs.declared.sorts.Sort.{Sort}
use Rattle.words.specs.declared.sorts.Sort.TheVariants as sorts
use Rattle.words.specs.declared.word.What.{What}
use Rattle.words.specs.declared.word.What.TheVariants.{Name, Variable, Number, Sign}
use Rattle.words.specs.declared.word.Word.{Word}
use Rattle.words.specs.declared.faults.LetterFault.{LetterFault}
use Rattle.words.specs.declared.faults.LetterFault.TheVariants.{TextTooLong, NoWord, WordTooLong}
use Rattle.words.specs.Names.{name_bytes}

-- the number that digits write
abbrev pub value : List ℕ → ℕ
value ds = fold (λ a b. a * 10 + (b - 48)) 0 ds

-- a word, by what it spells
pub data Lexeme : Type 0 where
  name : List ℕ → Lexeme
  variable : List ℕ → Lexeme
  number : ℕ → Lexeme
  sign : Mark → Lexeme

-- what a reader meets: no more words, a word from one place up to another, or a fault
pub data Read : Type 0 where
  end : ℕ → Read
  word : Lexeme → ℕ → ℕ → Read
  stray : ℕ → ℕ → Read
  long : ℕ → ℕ → Read

-- a name or variable of 1 to 12 bytes
abbrev pub fits : ℕ → Bool
fits n = nat_lt 0 n && nat_le n 12

abbrev pub read_name : (List ℕ → Lexeme) → List ℕ → ℕ → Read
read_name f bs s = cond (fits (prefix_len inner bs)) (word (f (take (prefix_len inner bs) bs)) s (s + prefix_len inner bs)) (long s s)

abbrev pub number_part : ℕ → List ℕ → ℕ → Read
number_part n bs s = cond (nat_le n 10) (cond (nat_le (value (take n bs)) 1000000000) (word (number (value (take n bs))) s (s + n)) (long s s)) (long s s)

abbrev pub read_number : List ℕ → ℕ → Read
read_number bs s = number_part (prefix_len digit bs) bs s

abbrev pub signed : Option (Mark × ℕ) → ℕ → Read
signed None s = stray s s
signed (Some m) s = word (sign m.0) s (s + m.1)

abbrev pub read_mark : List ℕ → ℕ → Read
read_mark text s = signed (mark_of (slice_index text s) (slice_index text (s + 1)) (slice_index text (s + 2))) s

abbrev pub by_sort : Sort → List ℕ → ℕ → Read
by_sort sorts.White text s = stray s s
by_sort sorts.Name text s = read_name name (drop s text) s
by_sort sorts.Variable text s = read_name variable (drop s text) s
by_sort sorts.Number text s = read_number (drop s text) s
by_sort sorts.Mark text s = read_mark text s
by_sort sorts.Other text s = stray s s

-- the word that begins at the place s
abbrev pub read_from : List ℕ → ℕ → Read
read_from text s = cond (nat_lt s (length text)) (by_sort (sort (slice_index text s)) text s) (end s)

-- the first word from a place on
abbrev pub word_at : List ℕ → ℕ → Read
word_at text at = read_from text (at + prefix_len white (drop at text))

abbrev pub faulted : LetterFault → ℕ → Read
faulted (TextTooLong p) s = long p s
faulted (NoWord p) s = stray p s
faulted (WordTooLong p) s = long p s

-- the words of the code, as those
abbrev pub spells : What → Lexeme
spells (Name n) = name (name_bytes n)
spells (Variable n) = variable (name_bytes n)
spells (Number n) = number n.value
spells (Sign m) = sign m

-- what the code answers, and the place where its reader then stands
abbrev pub seen : Result (Option Word) LetterFault → ℕ → Read
seen (Ok None) p = end p
seen (Ok (Some w)) p = word (spells w.what) w.place p
seen (Err e) s = faulted e s

-- the same of a word that begins at the place s, and of its parts, by the lexeme that they make
abbrev pub seen_as : {T : Type 0} → (T → Lexeme) → Result T LetterFault → ℕ → ℕ → Read
seen_as f (Ok x) s p = word (f x) s p
seen_as f (Err e) s p = faulted e p
