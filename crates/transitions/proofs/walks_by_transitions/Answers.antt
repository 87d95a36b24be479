use Rattle.transitions.proofs.Derivations.{walks_by_transitions}
use Rattle.transitions.proofs.walks_by_transitions.Goals as goal

pub returns : goal.returns
returns c = walks_by_transitions
