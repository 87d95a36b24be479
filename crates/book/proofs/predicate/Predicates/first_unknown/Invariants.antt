use Rattle.parse.specs.Model.{mention}
use Rattle.book.specs.Predicates.{predicates}
use Rattle.book.proofs.Numbering.{Knowing}
use Rattle.book.proofs.predicate.Predicates.first_unknown.Given as goal

abbrev pub invariant-loop-fact : goal.invariant-loop-fact
invariant-loop-fact l = Knowing (predicates l.self) mention l.facts l.fact-index
