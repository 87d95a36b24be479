use Rattle.transitions.proofs.Accepted.{accepted_walks}
use Rattle.transitions.proofs.accepted_walks.Goals as goal

pub returns : goal.returns
returns c = accepted_walks
