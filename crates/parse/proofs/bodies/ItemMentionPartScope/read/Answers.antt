use Rattle.std.proofs.Common.{[], ◌∷◌, sym, ap, ◌∙◌}
use Rattle.syntax.specs.Syntax.{kind, sign, ahead}
use Rattle.syntax.specs.Marks.{fail_word}
use Rattle.syntax.specs.Tree as tree
use Rattle.syntax.specs.Readers.{read_adding, read_tell}
use Rattle.parse.specs.Cursors.{rest}
use Rattle.parse.specs.Model.{add, tell}
use Rattle.parse.specs.Scopes.{scope}
use Rattle.parse.proofs.Scoped.{telling_told}
use Rattle.parse.proofs.Chains.{item_fact, item_told}
use Rattle.parse.proofs.bodies.ItemMentionPartScope.read.Goals as goal

pub returns-then-name_ahead-clause-told : goal.returns-then-name_ahead-clause-told
returns-then-name_ahead-clause-told c =
    let k = c.in_ok-read.ensures.told in
    let σ = scope c.args.scope.now in
    (tree.added k.0, (k.1.0, λ us h. ap add (k.1.1 us h)), item_fact (read_adding σ) (read_tell σ) (rest c.args.cursor.now) (sym c.if-name_ahead.ensures) k.2)

pub returns-clause-told : goal.returns-clause-told
returns-clause-told c =
    let s = c.if-skip.ensures.told in
    let k = c.in_ok-read-2.ensures.told in
    let σ = scope c.args.scope.now in (
      tree.told k.0,
      (k.1.0, λ us h. ap tell (telling_told us k.0 ∙ k.1.1 us h)),
      item_told (read_adding σ) (read_tell σ) (rest c.args.cursor.now) (sym c.if-name_ahead.ensures) (ap (ahead (kind (sign fail_word) ∷ [])) s.0 ∙ s.1) (ap (read_tell σ) s.0 ∙ k.2),
    )
