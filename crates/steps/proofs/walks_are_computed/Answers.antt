use Rattle.steps.proofs.Walks.{computed}
use Rattle.steps.proofs.walks_are_computed.Goals as goal

pub returns : goal.returns
returns c = computed
