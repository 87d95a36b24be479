use Rattle.syntax.proofs.Raw.{guards_told}
use Rattle.syntax.proofs.guards_are_told_by_a_bar.Goals as goal

pub returns : goal.returns
returns c = guards_told
