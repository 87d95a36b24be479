use Rattle.std.proofs.Common.{[], length, sym, refl, ap, ◌∙◌}
use Rattle.std.proofs.lemmas.List.{append-nil}
use Rattle.syntax.specs.Tree as tree
use Rattle.syntax.specs.Marks.{simplify, simplify_guarded}
use Rattle.syntax.specs.Grammar.{binding, seal}
use Rattle.syntax.specs.Readers.{read_heads, read_guard}
use Rattle.parse.specs.Cursors.{rest}
use Rattle.parse.specs.Fews.{few_items}
use Rattle.parse.specs.Flat.{few_mentions}
use Rattle.parse.specs.Rules.{IsArrow}
use Rattle.parse.specs.Scopes.{variables}
use Rattle.parse.proofs.Arrows.{removed_flaw, guard_flaw, simpagates, propagates, simplifies}
use Rattle.parse.proofs.Faults.{exit, faulted_same}
use Rattle.parse.proofs.rules.arrow.Goals as goal

pub returns-in_err-removed-clause-told : goal.returns-in_err-removed-clause-told
unfolding read_heads
returns-in_err-removed-clause-told c =
    let s = c.if-skip.ensures.told in
    let σ = binding (variables c.args.names.now) in
    exit (IsArrow (variables c.args.names.now) (variables c.parts.new.scope) c.args.first) c.parts.new.cursor c.from_residual.result c.from_residual.ensures.1 (removed_flaw (length (few_items c.args.first)) σ (rest c.args.cursor.now) s.0 s.1 (faulted_same (ap (λ n. read_heads n σ (rest c.skip.new.self)) (sym c.room.ensures)) c.in_err-removed.ensures.told))

pub returns-in_err-guard-clause-told : goal.returns-in_err-guard-clause-told
unfolding read_heads
returns-in_err-guard-clause-told c =
    let s = c.if-skip.ensures.told in
    let k = c.in_ok-removed.ensures.told in
    let σ = binding (variables c.args.names.now) in
    exit (IsArrow (variables c.args.names.now) (variables c.parts.new.scope) c.args.first) c.guard.new.cursor c.from_residual-in_err-guard.result c.from_residual-in_err-guard.ensures.1 (guard_flaw (length (few_items c.args.first)) σ (rest c.args.cursor.now) s.0 s.1 k.0 (ap (λ n. read_heads n σ (rest c.skip.new.self)) (sym c.room.ensures) ∙ k.2) (faulted_same (ap (λ τ. read_guard simplify simplify_guarded (seal τ) (rest c.parts.new.cursor)) k.1.0) c.in_err-guard.ensures.told))

pub returns-then-skip-clause-told : goal.returns-then-skip-clause-told
unfolding read_heads
returns-then-skip-clause-told c =
    let s = c.if-skip.ensures.told in
    let k = c.in_ok-removed.ensures.told in
    let g = c.in_ok-guard.ensures.told in
    let σ = binding (variables c.args.names.now) in
    let us = variables c.parts.new.scope in (
      tree.simpagating k.0 g.0,
      (ap seal k.1.0, λ i. record { kept = few_mentions c.args.first; removed = k.1.1 us ([], sym (append-nil us)) i; guard = g.1 i }),
      simpagates (length (few_items c.args.first)) σ (rest c.args.cursor.now) s.0 s.1 k.0 (ap (λ n. read_heads n σ (rest c.skip.new.self)) (sym c.room.ensures) ∙ k.2) (ap (λ τ. read_guard simplify simplify_guarded (seal τ) (rest c.parts.new.cursor)) k.1.0 ∙ g.2),
    )

pub returns-then-propagates-clause-told : goal.returns-then-propagates-clause-told
returns-then-propagates-clause-told c =
    let s = c.if-skip.ensures.told in
    let g = c.in_ok-guard-2.ensures.told in
    (tree.propagating g.0, (refl, λ i. record { kept = few_mentions c.args.first; removed = []; guard = g.1 i }), propagates (length (few_items c.args.first)) (binding (variables c.args.names.now)) (rest c.args.cursor.now) (rest c.skip.new.self) s.0 s.1 (sym c.if-propagates.ensures) g.2)

pub returns-clause-told : goal.returns-clause-told
returns-clause-told c =
    let s = c.if-skip.ensures.told in
    let g = c.in_ok-guard-3.ensures.told in
    (tree.simplifying g.0, (refl, λ i. record { kept = []; removed = few_mentions c.args.first; guard = g.1 i }), simplifies (length (few_items c.args.first)) (binding (variables c.args.names.now)) (rest c.args.cursor.now) (rest c.skip.new.self) s.0 s.1 (sym c.if-propagates.ensures) g.2)
