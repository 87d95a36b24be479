use Rattle.std.proofs.Common.{sym}
use Rattle.parse.specs.Tokens.{sign_code}
use Rattle.parse.specs.Cursors.{whole}
use Rattle.parse.proofs.Places.{mark_taken}
use Rattle.parse.proofs.cursor.Cursor.skip.Goals as goal

pub returns-clause-told : goal.returns-clause-told
returns-clause-told c =
    let h = sym c.if-not-mark_ahead.ensures.value in
    (h, mark_taken (sign_code c.args.mark) c.args.self.now.at (whole c.args.self.now) h)
