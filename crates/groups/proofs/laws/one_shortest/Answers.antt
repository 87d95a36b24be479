use Rattle.groups.proofs.Shapes.{one_shortest}
use Rattle.groups.proofs.laws.one_shortest.Goals as goal

pub returns : goal.returns
returns c = one_shortest
