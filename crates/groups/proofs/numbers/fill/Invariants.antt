use Rattle.groups.proofs.Writing.{Filling}
use Rattle.groups.proofs.numbers.fill.Given as goal

abbrev pub invariant-loop-byte : goal.invariant-loop-byte
invariant-loop-byte l = Filling l.part l.n l.byte-index l.rest
