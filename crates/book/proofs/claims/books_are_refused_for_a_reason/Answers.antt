use Rattle.book.proofs.Refused.{books_refused}
use Rattle.book.proofs.claims.books_are_refused_for_a_reason.Goals as goal

pub returns : goal.returns
returns c = books_refused
