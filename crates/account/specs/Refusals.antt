-- How a refusal is told. Assumes nothing.
use Rattle.std.specs.Prelude.{ℕ, List, [], ◌++◌, codes, decimal}
use Rattle.book.specs.Faults.{book_number, book_place, book_layer, layer_text}
use Rattle.book.specs.declared.faults.BookFault.{BookFault}
use Rattle.book.specs.declared.faults.BookFault.TheVariants.{Grammar, Unbound, Reused, InGoal, Unknown, Memory}
use Rattle.account.specs.declared.refusal.Source.{Source}
use Rattle.account.specs.declared.refusal.Source.TheVariants as source
use Rattle.account.specs.declared.refusal.Refusal.{Refusal}

abbrev pub source_text : Source → List ℕ
source_text source.Book = codes "book"
source_text source.Goal = codes "goal"

-- the part of the input in which a fault lies, its place there, and the layer that found it
abbrev pub lies_text : Source → BookFault → List ℕ
lies_text s f = codes " in " ++ (source_text s ++ (codes " at " ++ (decimal (book_place f) ++ (codes ", " ++ layer_text (book_layer f)))))

-- want of memory lies nowhere
abbrev pub where_text : Source → BookFault → List ℕ
where_text s (Grammar e) = lies_text s (Grammar e)
where_text s (Unbound p) = lies_text s (Unbound p)
where_text s (Reused p) = lies_text s (Reused p)
where_text s (InGoal p) = lies_text s (InGoal p)
where_text s (Unknown p) = lies_text s (Unknown p)
where_text s Memory = []

-- a refusal: the fault's number, and where it lies
abbrev pub refusal_text : Refusal → List ℕ
refusal_text r = codes "refused " ++ (decimal (book_number r.fault) ++ where_text r.source r.fault)
