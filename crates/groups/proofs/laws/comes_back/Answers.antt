use Rattle.groups.proofs.Reading.{comes_back}
use Rattle.groups.proofs.laws.comes_back.Goals as goal

pub returns : goal.returns
returns c = comes_back
