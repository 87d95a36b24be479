use Rattle.syntax.proofs.Late.{faults_are_late}
use Rattle.syntax.proofs.faults_are_5_to_8.Goals as goal

pub returns : goal.returns
returns c = faults_are_late
