use Rattle.groups.proofs.Reading.{reads_exactly}
use Rattle.groups.proofs.laws.reads_exactly.Goals as goal

pub returns : goal.returns
returns c = reads_exactly
