-- Arguments and their codes are each other's. Assumes nothing.
use Rattle.std.proofs.Common.{◌≤◌, pos, negsuc, arith}
use Rattle.std.proofs.lemmas.Bool.Decides.{nat_tests}
use Rattle.std.proofs.lemmas.Int.{ints}
use Rattle.groups.specs.declared.arguments.Argument.TheVariants.{Number, Cell}
use Rattle.groups.specs.Laws.{ArgumentsComeBack, CodesComeBack}

pub arguments_come_back : ArgumentsComeBack
arguments_come_back (Number (pos n)) (a, b) = let l : n ≤ 1000000000 = omega (arith, ints) in grind (arith, nat_tests)
arguments_come_back (Number (negsuc n)) (a, b) = let l : n ≤ 999999999 = omega (arith, ints) in grind (arith, nat_tests)
arguments_come_back (Cell k) h = grind (arith, nat_tests)

pub codes_come_back : CodesComeBack
codes_come_back c (Number (pos n)) e = grind (arith, ints, nat_tests)
codes_come_back c (Number (negsuc n)) e = grind (arith, ints, nat_tests)
codes_come_back c (Cell k) e = grind (arith, ints, nat_tests)
