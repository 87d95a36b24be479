use Rattle.std.proofs.Common.{map, vec_items}
use Rattle.parse.specs.Model.{mention, item}
use Rattle.book.specs.Mentions.{in_item}
use Rattle.book.proofs.Adding.{gathering_all, gathering_more}
use Rattle.book.proofs.mentions.add_items.Goals as goal

pub returns : goal.returns
returns c = gathering_all in_item item c.args.items.now (map mention (vec_items c.args.out.now)) c.loop-item.item-index _ c.loop-item-test.false c.loop-item.invariant

pub loop-item-preserved : goal.loop-item-preserved
loop-item-preserved c = gathering_more in_item item c.args.items.now (map mention (vec_items c.args.out.now)) c.loop-item.item-index c.item-item.result _ _ c.loop-item-test.true c.item-item.is c.loop-item.invariant c.in_ok-add_item.ensures
