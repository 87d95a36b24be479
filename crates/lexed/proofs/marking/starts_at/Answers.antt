use Rattle.std.proofs.Common.{◌∙◌}
use Rattle.lexed.proofs.Backward.{starts_read}
use Rattle.lexed.proofs.marking.starts_at.Goals as goal

pub returns : goal.returns
returns c = c.starts_after.ensures ∙ starts_read c.args.list.now c.args.at c.args.guard c.index-list-at.result c.if-at-eq0.false c.requires c.index-list-at.is
