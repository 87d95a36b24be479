use Rattle.steps.proofs.Cases.{cases}
use Rattle.steps.proofs.cases_stand.Goals as goal

pub returns : goal.returns
returns c = cases
