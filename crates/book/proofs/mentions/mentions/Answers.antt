use Rattle.std.proofs.Common.{[]}
use Rattle.parse.specs.Rules.{rule_view}
use Rattle.book.specs.Mentions.{in_rule}
use Rattle.book.proofs.Adding.{gathering_all, gathering_more}
use Rattle.book.proofs.mentions.mentions.Goals as goal

pub returns : goal.returns
returns c = gathering_all in_rule rule_view c.args.rules.now [] c.loop-rule.rule-index _ c.loop-rule-test.false c.loop-rule.invariant

pub loop-rule-preserved : goal.loop-rule-preserved
loop-rule-preserved c = gathering_more in_rule rule_view c.args.rules.now [] c.loop-rule.rule-index c.rule-item.result _ _ c.loop-rule-test.true c.rule-item.is c.loop-rule.invariant c.in_ok-add_rule.ensures
