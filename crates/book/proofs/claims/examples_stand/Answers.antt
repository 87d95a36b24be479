use Rattle.book.proofs.Examples.{examples}
use Rattle.book.proofs.claims.examples_stand.Goals as goal

pub returns : goal.returns
returns c = examples
