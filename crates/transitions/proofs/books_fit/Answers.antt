use Rattle.transitions.proofs.Shelved.{books_fit}
use Rattle.transitions.proofs.books_fit.Goals as goal

pub returns : goal.returns
returns c = books_fit
