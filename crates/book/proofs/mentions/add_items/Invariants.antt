use Rattle.std.proofs.Common.{map, vec_items}
use Rattle.parse.specs.Model.{mention, item}
use Rattle.book.specs.Mentions.{in_item}
use Rattle.book.proofs.Adding.{Gathering}
use Rattle.book.proofs.mentions.add_items.Given as goal

abbrev pub invariant-loop-item : goal.invariant-loop-item
invariant-loop-item l = Gathering in_item item l.items (map mention (vec_items l.initial.out)) l.item-index (map mention (vec_items l.out))
