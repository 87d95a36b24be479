use Rattle.std.proofs.Common.{sym, refl, ap}
use Rattle.syntax.specs.Tree.{cell, variable, number}
use Rattle.parse.specs.Model as model
use Rattle.parse.proofs.terms.left.Goals as goal

pub returns-then-skip-clause-told : goal.returns-then-skip-clause-told
returns-then-skip-clause-told g c =
    let s = c.if-skip.ensures.told in
    let k = c.in_ok-cell_number.ensures.told in
    (cell k.0, (refl, λ us h. ap model.cell k.1), simp (s.0, s.1, k.2))

pub returns-then-variable_ahead-clause-told : goal.returns-then-variable_ahead-clause-told
returns-then-variable_ahead-clause-told g c =
    let s = c.if-skip.ensures.told in
    let k = c.in_ok-variable.ensures.told in
    (variable k.0, (k.1.0, λ us h. ap model.variable (k.1.1 us h)), simp (s.0, s.1, sym c.if-variable_ahead.ensures, k.2))

pub returns-clause-told : goal.returns-clause-told
returns-clause-told g c =
    let s = c.if-skip.ensures.told in
    let k = c.in_ok-signed.ensures.told in
    (number k.0, (refl, λ us h. ap model.number k.1), simp (s.0, s.1, sym c.if-variable_ahead.ensures, k.2))
