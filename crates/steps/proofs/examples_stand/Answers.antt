use Rattle.steps.proofs.Examples.{examples}
use Rattle.steps.proofs.examples_stand.Goals as goal

pub returns : goal.returns
returns c = examples
