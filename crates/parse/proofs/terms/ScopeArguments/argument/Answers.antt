use Rattle.std.proofs.Common.{refl, ap}
use Rattle.syntax.specs.Tree.{held}
use Rattle.parse.specs.Model as model
use Rattle.parse.proofs.terms.ScopeArguments.argument.Goals as goal

pub returns-then-skip-clause-told : goal.returns-then-skip-clause-told
returns-then-skip-clause-told c =
    let s = c.if-skip.ensures.told in
    let k = c.in_ok-cell_number.ensures.told in
    (held k.0, (refl, λ us h. ap model.cell k.1), simp (s.0, s.1, k.2))
