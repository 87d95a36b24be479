use Rattle.transitions.proofs.Goals.{plain_starts}
use Rattle.transitions.proofs.plain_goals_start.Goals as goal

pub returns : goal.returns
returns c = plain_starts
