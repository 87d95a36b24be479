use Rattle.groups.proofs.Reading.{accepts_groups}
use Rattle.groups.proofs.laws.accepts_groups.Goals as goal

pub returns : goal.returns
returns c = accepts_groups
