use Rattle.book.proofs.Refused.{goals_refused}
use Rattle.book.proofs.claims.goals_are_refused_for_a_reason.Goals as goal

pub returns : goal.returns
returns c = goals_refused
