use Rattle.std.proofs.Common.{sym, refl, ap, ◌∙◌}
use Rattle.syntax.specs.Tree as tree
use Rattle.parse.specs.Model as model
use Rattle.parse.specs.Flat.{sum_of, sum_value}
use Rattle.parse.proofs.Scoped.{joins_scope}
use Rattle.parse.proofs.terms.right.Goals as goal

pub returns-then-not-variable_ahead-clause-told : goal.returns-then-not-variable_ahead-clause-told
returns-then-not-variable_ahead-clause-told c =
    let k = c.in_ok-signed.ensures.told in
    (tree.fixed k.0, (refl, λ us h. ap model.number k.1), simp (sym c.if-not-variable_ahead.ensures, k.2))

pub returns-clause-told : goal.returns-clause-told
returns-clause-told c =
    let v = c.in_ok-v.ensures.told in
    let k = c.in_ok-offset.ensures.told in (
      tree.summed v.0 k.0,
      (sym (joins_scope c.args.scope.now v.0) ∙ v.1.0, λ us h. ap (λ i. sum_of i (sum_value k.0)) (v.1.1 us h) ∙ ap (sum_of c.in_ok-v.v.index) k.1 ∙ sym c.summed.ensures),
      simp (sym c.if-not-variable_ahead.ensures, v.2, k.2),
    )
