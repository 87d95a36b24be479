use Rattle.groups.proofs.Reading.{too_wide}
use Rattle.groups.proofs.laws.too_wide.Goals as goal

pub returns : goal.returns
returns c = too_wide
