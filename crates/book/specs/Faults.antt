-- The numbers, places and layers of faults. Assumes nothing.
use Rattle.std.specs.Prelude.{ℕ, List, codes}
use Rattle.words.specs.Faults.{letter_number, letter_place}
use Rattle.book.specs.declared.faults.GrammarFault.TheVariants.{Letter, Barred, TooMany}
use Rattle.book.specs.declared.faults.BookFault.{BookFault}
use Rattle.book.specs.declared.faults.BookFault.TheVariants.{Grammar, Unbound, Reused, InGoal, Unknown, Memory}
use Rattle.book.specs.declared.faults.Layer.{Layer}
use Rattle.book.specs.declared.faults.Layer.TheVariants as layer

abbrev pub book_number : BookFault → ℕ
book_number (Grammar (Letter e)) = letter_number e
book_number (Grammar (Barred p)) = 4
book_number (Grammar (TooMany p)) = 5
book_number (Unbound p) = 6
book_number (Reused p) = 7
book_number (InGoal p) = 8
book_number (Unknown p) = 9
book_number Memory = 30

abbrev pub book_place : BookFault → ℕ
book_place (Grammar (Letter e)) = letter_place e
book_place (Grammar (Barred p)) = p
book_place (Grammar (TooMany p)) = p
book_place (Unbound p) = p
book_place (Reused p) = p
book_place (InGoal p) = p
book_place (Unknown p) = p
book_place Memory = 0

abbrev pub book_layer : BookFault → Layer
book_layer (Grammar (Letter e)) = layer.Letters
book_layer (Grammar (Barred p)) = layer.Grammar
book_layer (Grammar (TooMany p)) = layer.Grammar
book_layer (Unbound p) = layer.Meaning
book_layer (Reused p) = layer.Meaning
book_layer (InGoal p) = layer.Meaning
book_layer (Unknown p) = layer.Meaning
book_layer Memory = layer.Meaning

-- a layer as it is told
abbrev pub layer_text : Layer → List ℕ
layer_text layer.Letters = codes "letters"
layer_text layer.Grammar = codes "grammar"
layer_text layer.Meaning = codes "meaning"
