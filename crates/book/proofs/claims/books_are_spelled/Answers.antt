use Rattle.book.proofs.Accepted.{books_accepted, one_book}
use Rattle.book.proofs.claims.books_are_spelled.Goals as goal

pub returns : goal.returns
returns c = record { accepted = books_accepted; one = one_book }
