use Rattle.std.proofs.Common.{[], map, vec_items}
use Rattle.parse.specs.Model.{mention}
use Rattle.parse.specs.Rules.{rule_view}
use Rattle.book.specs.Mentions.{in_rule}
use Rattle.book.proofs.Adding.{Gathering}
use Rattle.book.proofs.mentions.mentions.Given as goal

abbrev pub invariant-loop-rule : goal.invariant-loop-rule
invariant-loop-rule l = Gathering in_rule rule_view l.rules [] l.rule-index (map mention (vec_items l.out))
