use Rattle.std.proofs.Common.{map, vec_items}
use Rattle.parse.specs.Model.{mention, alternative}
use Rattle.book.specs.Mentions.{in_items}
use Rattle.book.proofs.Adding.{Gathering}
use Rattle.book.proofs.mentions.add_body.Given as goal

abbrev pub invariant-loop-alternative : goal.invariant-loop-alternative
invariant-loop-alternative l = Gathering (λ a. in_items a.items) alternative l.body (map mention (vec_items l.initial.out)) l.alternative-index (map mention (vec_items l.out))
