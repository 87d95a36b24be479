use Rattle.groups.proofs.Reading.{samples}
use Rattle.groups.proofs.laws.samples.Goals as goal

pub returns : goal.returns
returns c = samples
