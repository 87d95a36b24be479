use Rattle.syntax.proofs.Examples.{examples}
use Rattle.syntax.proofs.examples_stand.Goals as goal

pub returns : goal.returns
returns c = examples
