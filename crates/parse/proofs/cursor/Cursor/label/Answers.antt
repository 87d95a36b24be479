use Rattle.std.proofs.Common.{◌+◌, drop, sym}
use Rattle.parse.specs.Cursors.{whole, rest}
use Rattle.parse.specs.Rules.{labels}
use Rattle.parse.proofs.Ahead.{label_fresh}
use Rattle.parse.proofs.cursor.Cursor.label.Goals as goal

pub returns-clause-told : goal.returns-clause-told
returns-clause-told c =
    let self = c.args.self.now in
    label_fresh (labels c.args.rules.now) (rest self) (drop (self.at + 1) (whole self)) c.in_ok-word.field-0.place c.in_ok-word.field-0.lexeme c.in-Some.name c.in_ok-word.ensures.1 c.in-Some.ensures (sym c.if-is_taken.ensures)
