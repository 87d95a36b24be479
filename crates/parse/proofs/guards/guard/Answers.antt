use Rattle.std.proofs.Common.{◌∙◌}
use Rattle.syntax.specs.Tree as tree
use Rattle.syntax.specs.Readers.{read_askings}
use Rattle.parse.specs.Cursors.{rest}
use Rattle.parse.specs.Flat.{IsGuard, tree_relation}
use Rattle.parse.specs.Flaws.{listed}
use Rattle.parse.specs.Relations.{compared_value, asking_made}
use Rattle.parse.specs.Scopes.{scope, scope_variables}
use Rattle.parse.specs.Tokens.{sign_code}
use Rattle.parse.proofs.Scoped.{row_here, asked}
use Rattle.parse.proofs.Faults.{exit}
use Rattle.parse.proofs.Chains.{askings_led, bar_led, guarded_all}
use Rattle.parse.proofs.guards.guard.Goals as goal

pub returns-in_err-list-clause-told : goal.returns-in_err-list-clause-told
unfolding read_askings
returns-in_err-list-clause-told c =
    let s = c.if-not-skip.ensures.told in
    exit (IsGuard (scope_variables c.args.scope)) c.parts.new.cursor c.from_residual-in_err-list.result c.from_residual-in_err-list.ensures.1 (askings_led (sign_code c.args.marks.plain) (sign_code c.args.marks.guarding) (read_askings (scope c.args.scope)) (rest c.args.cursor.now) s.0 s.1 c.in_err-list.ensures.told)

pub returns-in_err-expect-2-clause-told : goal.returns-in_err-expect-2-clause-told
unfolding read_askings
returns-in_err-expect-2-clause-told c =
    let s = c.if-not-skip.ensures.told in
    let k = c.in_ok-list.ensures.told in
    exit (IsGuard (scope_variables c.args.scope)) c.expect-2.new.self c.from_residual-in_err-expect-2.result c.from_residual-in_err-expect-2.ensures.1 (bar_led (sign_code c.args.marks.plain) (sign_code c.args.marks.guarding) (read_askings (scope c.args.scope)) (rest c.args.cursor.now) s.0 s.1 k.2 c.in_err-expect-2.ensures.told)

pub returns-clause-told : goal.returns-clause-told
unfolding read_askings
returns-clause-told c =
    let s = c.if-not-skip.ensures.told in
    let k = c.in_ok-list.ensures.told in (
      tree.guarded k.0,
      asked (scope_variables c.args.scope) (listed k.0) ∙ row_here (compared_value asking_made tree_relation) c.args.scope c.parts.new.scope k.0 k.1.0 k.1.1,
      guarded_all (sign_code c.args.marks.plain) (sign_code c.args.marks.guarding) (read_askings (scope c.args.scope)) (rest c.args.cursor.now) s.0 s.1 k.2 c.in_ok-expect-2.ensures.told,
    )
