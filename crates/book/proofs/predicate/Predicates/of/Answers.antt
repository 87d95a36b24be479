use Rattle.std.proofs.Common.{[], map, vec_items, ap, arith}
use Rattle.parse.specs.Model.{mention}
use Rattle.book.specs.Predicates.{coded, listing}
use Rattle.book.proofs.Numbering.{listing_more, listing_over, listing_all, exit_listed}
use Rattle.book.proofs.predicate.Predicates.of.Goals as goal

pub loop-fact-init : goal.loop-fact-init
loop-fact-init c = (ap (λ l. listing (map coded l) (map mention c.args.facts.now)) c.new.ensures.items, omega (arith, c.new.ensures.len))

pub loop-fact-preserved : goal.loop-fact-preserved
loop-fact-preserved c = (listing_more mention c.args.facts.now c.loop-fact.fact-index c.fact-item.result (map coded (vec_items c.loop-fact.all.list)) c.loop-fact-test.true c.fact-item.is c.loop-fact.invariant.0 _ c.in_ok-note.ensures, c.note.new.self.few)

pub returns : goal.returns
returns c = listing_all mention c.args.facts.now c.loop-fact.fact-index (map coded (vec_items c.loop-fact.all.list)) c.loop-fact-test.false c.loop-fact.invariant.0

pub returns-in_err-note : goal.returns-in_err-note
returns-in_err-note c = exit_listed (listing [] (map mention c.args.facts.now)) c.in_err-note.field-0.0 c.from_residual.result c.from_residual.ensures.1 (listing_over mention c.args.facts.now c.loop-fact.fact-index c.fact-item.result (map coded (vec_items c.loop-fact.all.list)) c.loop-fact-test.true c.fact-item.is c.loop-fact.invariant.0 c.in_err-note.field-0.0 c.in_err-note.ensures)
