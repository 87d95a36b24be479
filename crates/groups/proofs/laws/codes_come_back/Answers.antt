use Rattle.groups.proofs.Codes.{codes_come_back}
use Rattle.groups.proofs.laws.codes_come_back.Goals as goal

pub returns : goal.returns
returns c = codes_come_back
