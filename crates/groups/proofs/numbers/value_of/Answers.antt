use Rattle.std.proofs.Common.{arith}
use Rattle.std.proofs.lemmas.Bool.Decides.{nat_tests}
use Rattle.groups.proofs.Shapes.{value_turn}
use Rattle.groups.proofs.numbers.value_of.Goals as goal

pub returns-in_err-checked_mul : goal.returns-in_err-checked_mul
returns-in_err-checked_mul c =
    let s = value_turn c.args.part.now _ _ _ (cc) c.loop-b.yielded c.loop-b.yielded_by _ c.in-Some.b c.in-Some.is c.next.ensures.steps c.loop-b.n c.loop-b.invariant.so_far in
    grind (arith, nat_tests)
