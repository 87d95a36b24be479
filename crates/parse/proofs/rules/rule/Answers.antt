use Rattle.std.proofs.Common.{[], sym, ap, ◌∙◌}
use Rattle.syntax.specs.Tree as tree
use Rattle.syntax.specs.Grammar.{binding, behind}
use Rattle.syntax.specs.Readers.{read_label, read_heads, read_arrow, read_body}
use Rattle.parse.specs.Cursors.{rest}
use Rattle.parse.specs.Flaws.{IsAs}
use Rattle.parse.specs.Rules.{labels, rule_view, rule_model, arrow_view}
use Rattle.parse.specs.Scopes.{variables}
use Rattle.parse.proofs.Faults.{exit, faulted_same}
use Rattle.parse.proofs.Chains.{heads_led, tail_led, body_led, dot_led, rule_all}
use Rattle.parse.proofs.Arrows.{arrow_same, sealed, rule_made}
use Rattle.parse.proofs.rules.rule.Goals as goal

pub returns-in_err-first-clause-told : goal.returns-in_err-first-clause-told
unfolding read_heads
returns-in_err-first-clause-told c =
    let k = c.in_ok-label.ensures.told in
    let none = sym c.new-names.ensures in
    exit (IsAs rule_view rule_model) c.parts.new.cursor c.from_residual-in_err-first.result c.from_residual-in_err-first.ensures.1 (heads_led (read_label (labels c.args.rules.now)) (read_heads 3 (binding [])) read_arrow (λ hs a. read_body (behind hs a)) (rest c.args.cursor.now) k.2 c.in_ok-expect.ensures.told (faulted_same (ap (λ v. read_heads 3 (binding v) (rest c.expect.new.self)) none) c.in_err-first.ensures.told))

pub returns-in_err-kept-clause-told : goal.returns-in_err-kept-clause-told
unfolding read_heads
returns-in_err-kept-clause-told c =
    let k = c.in_ok-label.ensures.told in
    let none = sym c.new-names.ensures in
    let h = c.in_ok-first.ensures.told in
    let vs = variables c.parts.new.scope in
    let heads = ap (λ v. read_heads 3 (binding v) (rest c.expect.new.self)) none ∙ h.2 in
    let same = arrow_same h.0 c.in_ok-first.first _ vs none h.1.0 h.1.1 (rest c.parts.new.cursor) in
    exit (IsAs rule_view rule_model) c.arrow.new.cursor c.from_residual-in_err-kept.result c.from_residual-in_err-kept.ensures.1 (tail_led (read_label (labels c.args.rules.now)) (read_heads 3 (binding [])) read_arrow (λ hs a. read_body (behind hs a)) (rest c.args.cursor.now) k.2 c.in_ok-expect.ensures.told heads (faulted_same same c.in_err-kept.ensures.told))

pub returns-in_err-body-clause-told : goal.returns-in_err-body-clause-told
unfolding read_heads
returns-in_err-body-clause-told c =
    let k = c.in_ok-label.ensures.told in
    let none = sym c.new-names.ensures in
    let h = c.in_ok-first.ensures.told in
    let vs = variables c.parts.new.scope in
    let heads = ap (λ v. read_heads 3 (binding v) (rest c.expect.new.self)) none ∙ h.2 in
    let same = arrow_same h.0 c.in_ok-first.first _ vs none h.1.0 h.1.1 (rest c.parts.new.cursor) in
    let a = c.in_ok-kept.ensures.told in
    let us = variables c.arrow.new.names in
    let seal = ap (λ σ. read_body σ (rest c.arrow.new.cursor)) (sealed h.0 c.in_ok-first.first _ vs none h.1.0 h.1.1 a.0 us a.1.0) in
    exit (IsAs rule_view rule_model) c.body.new.cursor c.from_residual-in_err-body.result c.from_residual-in_err-body.ensures.1 (body_led (read_label (labels c.args.rules.now)) (read_heads 3 (binding [])) read_arrow (λ hs a. read_body (behind hs a)) (rest c.args.cursor.now) k.2 c.in_ok-expect.ensures.told heads (same ∙ a.2) (faulted_same seal c.in_err-body.ensures.told))

pub returns-in_err-expect-2-clause-told : goal.returns-in_err-expect-2-clause-told
unfolding read_heads
returns-in_err-expect-2-clause-told c =
    let k = c.in_ok-label.ensures.told in
    let none = sym c.new-names.ensures in
    let h = c.in_ok-first.ensures.told in
    let vs = variables c.parts.new.scope in
    let heads = ap (λ v. read_heads 3 (binding v) (rest c.expect.new.self)) none ∙ h.2 in
    let same = arrow_same h.0 c.in_ok-first.first _ vs none h.1.0 h.1.1 (rest c.parts.new.cursor) in
    let a = c.in_ok-kept.ensures.told in
    let us = variables c.arrow.new.names in
    let seal = ap (λ σ. read_body σ (rest c.arrow.new.cursor)) (sealed h.0 c.in_ok-first.first _ vs none h.1.0 h.1.1 a.0 us a.1.0) in
    let b = c.in_ok-body.ensures.told in
    exit (IsAs rule_view rule_model) c.expect-2.new.self c.from_residual-in_err-expect-2.result c.from_residual-in_err-expect-2.ensures.1 (dot_led (read_label (labels c.args.rules.now)) (read_heads 3 (binding [])) read_arrow (λ hs a. read_body (behind hs a)) (rest c.args.cursor.now) k.2 c.in_ok-expect.ensures.told heads (same ∙ a.2) (seal ∙ b.2) c.in_err-expect-2.ensures.told)

pub returns-clause-told : goal.returns-clause-told
unfolding read_heads
returns-clause-told c =
    let k = c.in_ok-label.ensures.told in
    let none = sym c.new-names.ensures in
    let h = c.in_ok-first.ensures.told in
    let vs = variables c.parts.new.scope in
    let heads = ap (λ v. read_heads 3 (binding v) (rest c.expect.new.self)) none ∙ h.2 in
    let same = arrow_same h.0 c.in_ok-first.first _ vs none h.1.0 h.1.1 (rest c.parts.new.cursor) in
    let a = c.in_ok-kept.ensures.told in
    let us = variables c.arrow.new.names in
    let seal = ap (λ σ. read_body σ (rest c.arrow.new.cursor)) (sealed h.0 c.in_ok-first.first _ vs none h.1.0 h.1.1 a.0 us a.1.0) in
    let b = c.in_ok-body.ensures.told in
    let v = arrow_view c.in_ok-kept.field-0 in
    let made = rule_made h.0 c.in_ok-first.first _ vs none h.1.0 h.1.1 a.0 us a.1.0 k.0 b.0 v a.1.1 in (
      tree.rule k.0 h.0 a.0 b.0,
      made ∙ (λ i. record { label = k.1 i; variables = us; kept = v.kept; removed = v.removed; guard = v.guard; body = b.1 i }),
      rule_all (read_label (labels c.args.rules.now)) (read_heads 3 (binding [])) read_arrow (λ hs a. read_body (behind hs a)) (rest c.args.cursor.now) k.2 c.in_ok-expect.ensures.told heads (same ∙ a.2) (seal ∙ b.2) c.in_ok-expect-2.ensures.told,
    )
