use Rattle.std.proofs.Common.{arith}
use Rattle.groups.proofs.Writing.{fill_low, fill_high}
use Rattle.groups.proofs.numbers.fill.Goals as goal
use Rattle.groups.proofs.numbers.fill.Goals.{then-rest-lt128, else-rest-lt128}

pub loop-byte-preserved : goal.loop-byte-preserved
loop-byte-preserved c =
    elim c.if-rest-lt128.branch [
      | then-rest-lt128 w ↦ fill_low _ _ _ _ _ w.byte-is (omega arith) (omega arith) w.if-rest-lt128.true c.loop-byte.invariant
      | else-rest-lt128 w ↦ fill_high _ _ _ _ _ w.byte-is (omega arith) (omega arith) w.if-rest-lt128.false c.loop-byte.invariant
    ]
