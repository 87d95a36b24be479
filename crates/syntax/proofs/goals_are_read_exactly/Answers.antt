use Rattle.syntax.proofs.Books.{goal_exact}
use Rattle.syntax.proofs.goals_are_read_exactly.Goals as goal

pub returns : goal.returns
returns c = goal_exact
