use Rattle.groups.proofs.Writing.{replaces}
use Rattle.groups.proofs.laws.replaces.Goals as goal

pub returns : goal.returns
returns c = replaces
