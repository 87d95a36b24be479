use Rattle.syntax.proofs.Raw.{books_written}
use Rattle.syntax.proofs.books_as_written.Goals as goal

pub returns : goal.returns
returns c = books_written
