use Rattle.transitions.proofs.One.{one_transition}
use Rattle.transitions.proofs.one_transition.Goals as goal

pub returns : goal.returns
returns c = one_transition
