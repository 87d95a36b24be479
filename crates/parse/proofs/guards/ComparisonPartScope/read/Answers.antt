use Rattle.std.proofs.Common.{sym, ap, ◌∙◌, subst}
use Rattle.syntax.specs.Grammar.{same}
use Rattle.syntax.specs.Tree.{compared}
use Rattle.syntax.specs.Readers.{read_left, read_right}
use Rattle.parse.specs.Cursors.{rest}
use Rattle.parse.specs.Relations.{compared_view, compared_value}
use Rattle.parse.specs.Scopes.{scope, Grown, Numbers}
use Rattle.parse.proofs.Scoped.{left_scope}
use Rattle.parse.proofs.Faults.{exit, faulted_same}
use Rattle.parse.proofs.Chains.{comparison_third, comparison_all}
use Rattle.parse.proofs.guards.ComparisonPartScope.read.Goals as goal

pub returns-in_err-right-clause-told : goal.returns-in_err-right-clause-told
returns-in_err-right-clause-told g c =
    let l = c.in_ok-left.ensures.told in
    let t = c.in_ok-relation.ensures.told in
    let σ = scope c.args.scope.now in
    let e = sym (left_scope c.args.scope.now l.0) ∙ l.1.0 in
    exit (Grown (compared_view g.R.Relates.made) (compared_value g.R.Relates.made g.R.Relates.plain) same σ (scope c.right.new.scope)) c.right.new.cursor c.from_residual-in_err-right.result c.from_residual-in_err-right.ensures.1 (comparison_third (read_left σ) g.R.Relates.reader (read_right σ) (rest c.args.cursor.now) l.2 t.2 (faulted_same (ap (λ τ. read_right τ (rest c.relation.new.self)) e) c.in_err-right.ensures.told))

pub returns-clause-told : goal.returns-clause-told
returns-clause-told g c =
    let l = c.in_ok-left.ensures.told in
    let t = c.in_ok-relation.ensures.told in
    let r = c.in_ok-right.ensures.told in
    let σ = scope c.args.scope.now in
    let e = sym (left_scope c.args.scope.now l.0) ∙ l.1.0 in (
      compared l.0 t.0 r.0,
      (e ∙ r.1.0, λ us h i. g.R.Relates.made (l.1.1 us (subst (λ τ. Numbers τ us) (sym r.1.0) h) i) (t.1 i) (r.1.1 us h i)),
      comparison_all (read_left σ) g.R.Relates.reader (read_right σ) (rest c.args.cursor.now) l.2 t.2 (ap (λ τ. read_right τ (rest c.relation.new.self)) e ∙ r.2),
    )
