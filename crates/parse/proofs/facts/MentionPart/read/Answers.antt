use Rattle.std.proofs.Common.{[], ap, ◌∙◌}
use Rattle.syntax.specs.Syntax.{ok}
use Rattle.syntax.specs.Tree.{bare, applied}
use Rattle.syntax.specs.Readers.{read_name, read_arguments}
use Rattle.parse.specs.Cursors.{rest}
use Rattle.parse.specs.Model.{mention}
use Rattle.parse.specs.Flat.{mention_of}
use Rattle.parse.specs.Scopes.{Grown}
use Rattle.parse.proofs.Faults.{exit}
use Rattle.parse.proofs.Chains.{fact_bare, fact_arguments, fact_close, fact_all}
use Rattle.parse.proofs.facts.MentionPart.read.Goals as goal

pub returns-then-not-skip-clause-told : goal.returns-then-not-skip-clause-told
returns-then-not-skip-clause-told g c =
    let n = c.in_ok-place.ensures.told in
    let s = c.if-not-skip.ensures.told in
    let read = g.S.Arguments.argument_reader in
    let next = g.S.Arguments.next_argument in
    let σ = g.S.Variables.holds c.args.scope.now in (
      bare n.0.0 n.0.1,
      (g.met.S.Arguments.fact_grows.bare σ n.0.0 n.0.1, λ us h i. record { place = n.1.0 i; name = n.1.1 i; arguments = [] }),
      fact_bare read next read_name (read_arguments read next σ) (rest c.args.cursor.now) (n.2 ∙ ap (ok n.0) s.0) s.1,
    )

pub returns-in_err-arguments-clause-told : goal.returns-in_err-arguments-clause-told
unfolding read_arguments
returns-in_err-arguments-clause-told g c =
    let n = c.in_ok-place.ensures.told in
    let s = c.if-not-skip.ensures.told in
    let read = g.S.Arguments.argument_reader in
    let next = g.S.Arguments.next_argument in
    let σ = g.S.Variables.holds c.args.scope.now in
    exit (Grown mention (λ us f. mention_of (g.S.Arguments.argument_value us) f) g.S.Arguments.next_fact σ (g.S.Variables.holds c.parts.new.scope)) c.parts.new.cursor c.from_residual-in_err-arguments.result c.from_residual-in_err-arguments.ensures.1 (fact_arguments read next read_name (read_arguments read next σ) (rest c.args.cursor.now) n.2 s.0 s.1 c.in_err-arguments.ensures.told)

pub returns-in_err-expect-clause-told : goal.returns-in_err-expect-clause-told
unfolding read_arguments
returns-in_err-expect-clause-told g c =
    let n = c.in_ok-place.ensures.told in
    let s = c.if-not-skip.ensures.told in
    let a = c.in_ok-arguments.ensures.told in
    let read = g.S.Arguments.argument_reader in
    let next = g.S.Arguments.next_argument in
    let σ = g.S.Variables.holds c.args.scope.now in
    exit (Grown mention (λ us f. mention_of (g.S.Arguments.argument_value us) f) g.S.Arguments.next_fact σ (g.S.Variables.holds c.parts.new.scope)) c.expect.new.self c.from_residual-in_err-expect.result c.from_residual-in_err-expect.ensures.1 (fact_close read next read_name (read_arguments read next σ) (rest c.args.cursor.now) n.2 s.0 s.1 a.2 c.in_err-expect.ensures.told)

pub returns-clause-told : goal.returns-clause-told
unfolding read_arguments
returns-clause-told g c =
    let n = c.in_ok-place.ensures.told in
    let s = c.if-not-skip.ensures.told in
    let a = c.in_ok-arguments.ensures.told in
    let read = g.S.Arguments.argument_reader in
    let next = g.S.Arguments.next_argument in
    let σ = g.S.Variables.holds c.args.scope.now in (
      applied n.0.0 n.0.1 a.0,
      (g.met.S.Arguments.fact_grows.applied σ n.0.0 n.0.1 a.0 ∙ a.1.0, λ us h i. record { place = n.1.0 i; name = n.1.1 i; arguments = a.1.1 us h i }),
      fact_all read next read_name (read_arguments read next σ) (rest c.args.cursor.now) n.2 s.0 s.1 a.2 c.in_ok-expect.ensures.told,
    )
