use Rattle.syntax.proofs.Limits.{limits_exact}
use Rattle.syntax.proofs.limits_are_kept_exactly.Goals as goal

pub returns : goal.returns
returns c = limits_exact
