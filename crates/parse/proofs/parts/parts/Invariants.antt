use Rattle.std.proofs.Common.{◌≡◌, map, length}
use Rattle.syntax.specs.Parts.{parts}
use Rattle.parse.specs.Cursors.{rest}
use Rattle.parse.specs.Tokens.{sign_code}
use Rattle.parse.proofs.Loops.{Gathers}
use Rattle.parse.proofs.parts.parts.Given as goal

abbrev pub invariant-loop-turn : goal.invariant-loop-turn
invariant-loop-turn g l = record {
  same : l.cursor.tokens ≡ l.initial.cursor.tokens;
  gathers : Gathers g.P.Begins.first (sign_code l.mark) g.P.Part.reader g.P.Part.next (g.R.Row.number l.fn.most) g.P.Part.value (parts g.P.Begins.first (sign_code l.mark) g.P.Part.reader g.P.Part.next (g.R.Row.number l.fn.most) (g.S.Variables.holds l.initial.scope) (rest l.initial.cursor)) l._turn (g.S.Variables.holds l.initial.scope) (g.S.Variables.holds l.scope) (rest l.cursor) (map g.P.Part.view (g.R.Row.held l.row));
  count : length (g.R.Row.held l.row) ≡ l._turn;
}
