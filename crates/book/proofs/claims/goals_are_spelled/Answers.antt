use Rattle.book.proofs.Accepted.{goals_accepted, one_goal}
use Rattle.book.proofs.claims.goals_are_spelled.Goals as goal

pub returns : goal.returns
returns c = record { accepted = goals_accepted; one = one_goal }
