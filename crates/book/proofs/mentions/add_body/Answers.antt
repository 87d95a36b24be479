use Rattle.std.proofs.Common.{◌++◌, map, vec_items, ap, ◌∙◌}
use Rattle.parse.specs.Model.{mention, item, alternative}
use Rattle.book.specs.Mentions.{in_items}
use Rattle.book.proofs.Adding.{gathering_all, gathering_more}
use Rattle.book.proofs.mentions.add_body.Goals as goal

pub returns : goal.returns
returns c = gathering_all (λ a. in_items a.items) alternative c.args.body.now (map mention (vec_items c.args.out.now)) c.loop-alternative.alternative-index _ c.loop-alternative-test.false c.loop-alternative.invariant

pub loop-alternative-preserved : goal.loop-alternative-preserved
loop-alternative-preserved c = gathering_more (λ a. in_items a.items) alternative c.args.body.now (map mention (vec_items c.args.out.now)) c.loop-alternative.alternative-index c.alternative-item.result _ _ c.loop-alternative-test.true c.alternative-item.is c.loop-alternative.invariant (c.in_ok-add_items.ensures ∙ ap (λ l. map mention (vec_items c.loop-alternative.out) ++ in_items (map item l)) c.deref.ensures.value)
