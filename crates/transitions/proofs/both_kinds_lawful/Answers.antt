use Rattle.transitions.proofs.Both.{both_lawful}
use Rattle.transitions.proofs.both_kinds_lawful.Goals as goal

pub returns : goal.returns
returns c = both_lawful
