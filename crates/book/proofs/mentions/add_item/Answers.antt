use Rattle.std.proofs.Common.{◌++◌, map, vec_items, sym, ap, ◌∙◌}
use Rattle.std.proofs.lemmas.List.{map_push}
use Rattle.parse.specs.Model.{mention, item}
use Rattle.book.specs.Mentions.{in_item}
use Rattle.book.proofs.mentions.add_item.Goals as goal

pub returns-in_ok-push-in-Add : goal.returns-in_ok-push-in-Add
returns-in_ok-push-in-Add c =
    ap (map mention) c.in_ok-push-in-Add.ensures.items ∙ map_push mention (vec_items c.args.out.now) c.in-Add.fact ∙ ap (λ x. map mention (vec_items c.args.out.now) ++ in_item (item x)) (sym c.in-Add.is)
