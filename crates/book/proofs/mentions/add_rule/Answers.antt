use Rattle.std.proofs.Common.{◌++◌, map, vec_items, ap, ◌∙◌}
use Rattle.std.proofs.lemmas.List.{map-append}
use Rattle.parse.specs.Model.{mention, alternative}
use Rattle.parse.specs.Fews.{few_items}
use Rattle.book.specs.Mentions.{in_body}
use Rattle.book.proofs.Adding.{three_parts}
use Rattle.book.proofs.mentions.add_rule.Goals as goal

pub returns : goal.returns
returns c =
    three_parts (map mention (vec_items c.args.out.now)) (map mention (few_items c.args.rule.now.kept)) (map mention (few_items c.args.rule.now.removed)) (in_body (map alternative (vec_items c.args.rule.now.body))) _ _ _
    (ap (map mention) c.in_ok-append_to.ensures ∙ map-append mention (vec_items c.args.out.now) (few_items c.args.rule.now.kept))
    (ap (map mention) c.in_ok-append_to-2.ensures ∙ map-append mention (vec_items c.append_to.new.out) (few_items c.args.rule.now.removed))
    (c.in_ok-add_body.ensures ∙ ap (λ l. map mention (vec_items c.append_to-2.new.out) ++ in_body (map alternative l)) c.deref.ensures.value)
