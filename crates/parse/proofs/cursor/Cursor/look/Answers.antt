use Rattle.std.proofs.Common.{◌+◌, drop, sym, ap, ◌∙◌}
use Rattle.parse.specs.Cursors.{whole}
use Rattle.parse.specs.Tokens.{ahead_of}
use Rattle.parse.proofs.Places.{word_at}
use Rattle.parse.proofs.cursor.Cursor.look.Goals as goal

pub returns-clause-seen : goal.returns-clause-seen
returns-clause-seen c =
    let self = c.args.self.now in
    word_at self.tokens.now self.at c.get.result c.get.ensures.lookup.3 ∙ ap (λ o. ahead_of o (drop (self.at + 1) (whole self))) (sym c.copied.ensures)
