use Rattle.std.proofs.Common.{arith}
use Rattle.std.proofs.lemmas.Grind.{common_steps}
use Rattle.groups.proofs.Reading.{reads_short, refuses_part, accepts_part}
use Rattle.groups.proofs.numbers.read.Goals as goal

pub returns-in_err-part-clause-read : goal.returns-in_err-part-clause-read
returns-in_err-part-clause-read g c = grind (arith, common_steps, reads_short)

pub returns-in_err-n-clause-read : goal.returns-in_err-n-clause-read
returns-in_err-n-clause-read g c = grind (arith, common_steps, refuses_part)

pub returns-clause-read : goal.returns-clause-read
returns-clause-read g c = grind (arith, common_steps, accepts_part)
