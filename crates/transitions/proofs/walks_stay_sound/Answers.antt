use Rattle.transitions.proofs.Soundness.{soundness}
use Rattle.transitions.proofs.walks_stay_sound.Goals as goal

pub returns : goal.returns
returns c = soundness
