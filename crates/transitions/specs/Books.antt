-- Books as they are read are programs that the theorems speak of. Assumes nothing.
use Rattle.book.specs.declared.library.Book.{Book}
use Rattle.book.specs.Reading.{book_view}
use Rattle.steps.specs.Program.{program_of}
use Rattle.transitions.specs.Lawful.{SixVariables}

abbrev pub BooksFit : Type 0
BooksFit = (b : Book) → SixVariables (program_of (book_view b))
