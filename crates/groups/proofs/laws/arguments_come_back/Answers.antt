use Rattle.groups.proofs.Codes.{arguments_come_back}
use Rattle.groups.proofs.laws.arguments_come_back.Goals as goal

pub returns : goal.returns
returns c = arguments_come_back
