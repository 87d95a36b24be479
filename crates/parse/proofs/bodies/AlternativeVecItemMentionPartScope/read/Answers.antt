use Rattle.std.proofs.Common.{sym, refl, ap, ◌∙◌}
use Rattle.syntax.specs.Tree as tree
use Rattle.syntax.specs.Readers.{read_weight, read_content}
use Rattle.parse.specs.Cursors.{rest}
use Rattle.parse.specs.Flat.{content_of}
use Rattle.parse.specs.Scopes.{scope}
use Rattle.parse.proofs.Scoped.{numbers_only}
use Rattle.parse.proofs.Chains.{plain_all, weighted_all}
use Rattle.parse.proofs.bodies.AlternativeVecItemMentionPartScope.read.Goals as goal

pub returns-then-not-weight_ahead-clause-told : goal.returns-then-not-weight_ahead-clause-told
returns-then-not-weight_ahead-clause-told c =
    let k = c.in_ok-items.ensures.told in
    let s = c.args.scope.now in
    (tree.plainly k.0, (refl, λ us h i. record { weight = 0; items = (ap (λ u. content_of u k.0) (numbers_only s us h) ∙ k.1) i }), plain_all read_weight (read_content 8 (scope s)) (rest c.args.cursor.now) (sym c.if-not-weight_ahead.ensures) k.2)

pub returns-clause-told : goal.returns-clause-told
returns-clause-told c =
    let w = c.in_ok-weight.ensures.told in
    let k = c.in_ok-items-2.ensures.told in
    let s = c.args.scope.now in (
      tree.weighted w.0 k.0,
      (refl, λ us h i. record { weight = w.1 i; items = (ap (λ u. content_of u k.0) (numbers_only s us h) ∙ k.1) i }),
      weighted_all read_weight (read_content 8 (scope s)) (rest c.args.cursor.now) (sym c.if-not-weight_ahead.ensures) w.2 c.in_ok-expect.ensures.told k.2,
    )
