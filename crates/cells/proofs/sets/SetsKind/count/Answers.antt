use Rattle.cells.specs.SetsLaws.{counts_ones}
use Rattle.cells.proofs.sets.SetsKind.count.Goals as goal

pub returns : goal.returns
returns c = counts_ones c.args.c c.ranges.c.fits
