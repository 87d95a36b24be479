use Rattle.syntax.proofs.Books.{book_exact}
use Rattle.syntax.proofs.books_are_read_exactly.Goals as goal

pub returns : goal.returns
returns c = book_exact
