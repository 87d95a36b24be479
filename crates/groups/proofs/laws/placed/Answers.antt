use Rattle.groups.proofs.Reading.{placed}
use Rattle.groups.proofs.laws.placed.Goals as goal

pub returns : goal.returns
returns c = placed
