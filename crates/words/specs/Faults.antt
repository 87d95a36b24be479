-- The numbers and places of the faults of letters, and how they are told. Assumes nothing.
use Rattle.std.specs.Prelude.{ℕ, List, ◌++◌, codes}
use Rattle.std.specs.Fmt.{decimal}
use Rattle.words.specs.declared.faults.LetterFault.{LetterFault}
use Rattle.words.specs.declared.faults.LetterFault.TheVariants.{TextTooLong, NoWord, WordTooLong}

abbrev pub letter_number : LetterFault → ℕ
letter_number (TextTooLong p) = 1
letter_number (NoWord p) = 2
letter_number (WordTooLong p) = 3

abbrev pub letter_place : LetterFault → ℕ
letter_place (TextTooLong p) = p
letter_place (NoWord p) = p
letter_place (WordTooLong p) = p

abbrev pub letter_text : LetterFault → List ℕ
letter_text (TextTooLong p) = codes "the text is longer than " ++ decimal p ++ codes " bytes"
letter_text (NoWord p) = codes "no word begins at " ++ decimal p
letter_text (WordTooLong p) = codes "the word at " ++ decimal p ++ codes " is too long"
