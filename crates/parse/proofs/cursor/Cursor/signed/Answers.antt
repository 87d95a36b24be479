use Rattle.std.proofs.Common.{neg_ℤ, sym, ap, ◌∙◌}
use Rattle.syntax.specs.Tree.{negative, positive}
use Rattle.parse.proofs.cursor.Cursor.signed.Goals as goal

pub returns-then-skip-clause-told : goal.returns-then-skip-clause-told
returns-then-skip-clause-told c =
    let s = c.if-skip.ensures.told in
    let k = c.in_ok-number.ensures.told in
    (negative c.in_ok-number.field-0.value, ap neg_ℤ (sym c.from.ensures) ∙ sym c.neg.ensures, simp (s.0, s.1, k.2, k.1))

pub returns-clause-told : goal.returns-clause-told
returns-clause-told c =
    let s = c.if-skip.ensures.told in
    let k = c.in_ok-number-2.ensures.told in
    (positive c.in_ok-number-2.field-0.value, sym c.from-2.ensures, simp (s.0, s.1, k.2, k.1))
