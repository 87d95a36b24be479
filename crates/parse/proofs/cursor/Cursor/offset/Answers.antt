use Rattle.std.proofs.Common.{pos, neg_ℤ, Some, sym, ap, ◌∙◌}
use Rattle.syntax.specs.Tree.{raised, lowered}
use Rattle.parse.proofs.cursor.Cursor.offset.Goals as goal

pub returns-then-skip-clause-told : goal.returns-then-skip-clause-told
returns-then-skip-clause-told c =
    let s = c.if-skip.ensures.told in
    let k = c.in_ok-number.ensures.told in
    (raised k.0, ap (λ n. Some (pos n)) k.1 ∙ ap Some (sym c.from.ensures), simp (s.0, s.1, k.2))

pub returns-then-skip-2-clause-told : goal.returns-then-skip-2-clause-told
returns-then-skip-2-clause-told c =
    let m = c.if-skip.ensures.told in
    let s = c.if-skip-2.ensures.told in
    let k = c.in_ok-number-2.ensures.told in
    (lowered k.0, ap (λ n. Some (neg_ℤ (pos n))) k.1 ∙ ap (λ z. Some (neg_ℤ z)) (sym c.from-then-skip-2.ensures) ∙ ap Some (sym c.neg.ensures), simp (m.0, m.1, s.0, s.1, k.2))
