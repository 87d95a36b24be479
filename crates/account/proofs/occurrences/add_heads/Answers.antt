use Rattle.std.proofs.Common.{vec_items, sym, ◌∙◌}
use Rattle.book.specs.Predicates.{coded}
use Rattle.account.proofs.Trying.{tried_other}
use Rattle.account.proofs.occurrences.add_heads.Goals as goal

pub loop-head-preserved : goal.loop-head-preserved
loop-head-preserved c =
    let s = c.in-Some.ensures.steps in
    let i = c.loop-head.invariant in
    let t = tried_other (coded c.args.predicate.now) c.args.rule c.args.heads.now (vec_items c.args.out.now) c.in-Some.fact.now _ _ (vec_items c.loop-head.out) s.1.0 i.front (sym c.is_of.ensures ∙ c.if-is_of.false) i.tried in
    record { from_0 = s.0 ∙ i.from_0; front = t.0; tried = t.1 }
