use Rattle.std.proofs.Common.{arith}
use Rattle.groups.proofs.Reading.{refuses_many}
use Rattle.groups.proofs.numbers.number_of.Goals as goal

pub returns-then-part-width_of : goal.returns-then-part-width_of
returns-then-part-width_of g c = refuses_many c.args.part.now g.T.Whole.bits g.T.Whole.at_most_64 (omega (arith, c.width_of.ensures, c.if-part-width_of.true))
