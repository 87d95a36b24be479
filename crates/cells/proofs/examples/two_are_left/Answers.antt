use Rattle.std.proofs.Common.{refl}
use lib.Count.{ones_in}
use Rattle.cells.proofs.examples.two_are_left.Goals as goal

pub returns : goal.returns
unfolding ones_in
returns c = record { left = refl; two = refl }
