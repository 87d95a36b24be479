use Rattle.steps.proofs.Points.{points}
use Rattle.steps.proofs.points_stand.Goals as goal

pub returns : goal.returns
returns c = points
