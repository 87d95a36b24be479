use Rattle.lexed.proofs.Backward.{MarkedFrom}
use Rattle.lexed.proofs.marking.mark.Given as goal

abbrev pub invariant-loop-i : goal.invariant-loop-i
invariant-loop-i l = MarkedFrom l.initial.list l.list l.colon l.guard l.i
