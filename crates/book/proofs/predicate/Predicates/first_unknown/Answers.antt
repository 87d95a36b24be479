use Rattle.std.proofs.Common.{sym}
use Rattle.parse.specs.Model.{mention}
use Rattle.book.specs.Predicates.{predicates}
use Rattle.book.proofs.Numbering.{knowing_more, knowing_not, knowing_all}
use Rattle.book.proofs.predicate.Predicates.first_unknown.Goals as goal

pub returns-then-not-knows : goal.returns-then-not-knows
returns-then-not-knows c = knowing_not (predicates c.args.self.now) mention c.args.facts.now c.loop-fact.fact-index c.fact-item.result c.loop-fact-test.true c.fact-item.is c.loop-fact.invariant (sym c.if-not-knows.ensures)

pub loop-fact-preserved : goal.loop-fact-preserved
loop-fact-preserved c = knowing_more (predicates c.args.self.now) mention c.args.facts.now c.loop-fact.fact-index c.fact-item.result c.loop-fact-test.true c.fact-item.is c.loop-fact.invariant (sym c.if-not-knows.ensures)

pub returns : goal.returns
returns c = knowing_all (predicates c.args.self.now) mention c.args.facts.now c.loop-fact.fact-index c.loop-fact-test.false c.loop-fact.invariant
