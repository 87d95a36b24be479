use Rattle.std.proofs.Common.{vec_items}
use Rattle.book.specs.Predicates.{coded}
use Rattle.account.proofs.Trying.{LeftFrom}
use Rattle.account.proofs.occurrences.occurrences.Given as goal

abbrev pub invariant-loop-index : goal.invariant-loop-index
invariant-loop-index l = LeftFrom (coded l.predicate) l.rules l.index (vec_items l.out)
