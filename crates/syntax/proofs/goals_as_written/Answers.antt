use Rattle.syntax.proofs.Raw.{goals_written}
use Rattle.syntax.proofs.goals_as_written.Goals as goal

pub returns : goal.returns
returns c = goals_written
