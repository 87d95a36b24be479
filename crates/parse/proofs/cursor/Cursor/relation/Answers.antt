use Rattle.std.proofs.Common.{◌+◌, drop, ap, ◌∙◌}
use Rattle.parse.specs.declared.token.Lexeme.TheVariants.{Sign}
use Rattle.parse.specs.Cursors.{whole, rest}
use Rattle.parse.proofs.Ahead.{at_lexeme}
use Rattle.parse.proofs.cursor.Cursor.relation.Goals as goal

pub returns-clause-told : goal.returns-clause-told
returns-clause-told g c =
    let self = c.args.self.now in
    let t = c.in_ok-mark.field-0 in
    let k = g.met.R.Relates.reads.some c.in-Sign.mark c.in-Ok.relation (drop (self.at + 1) (whole self)) c.in-Ok.ensures in
    (k.0, k.1, ap g.R.Relates.reader (at_lexeme (rest self) (drop (self.at + 1) (whole self)) t (Sign c.in-Sign.mark) c.in_ok-mark.ensures.1 c.in-Sign.is) ∙ k.2)
