use Rattle.transitions.proofs.Measure.{measure}
use Rattle.transitions.proofs.quiet_steps_end.Goals as goal

pub returns : goal.returns
returns c = measure
