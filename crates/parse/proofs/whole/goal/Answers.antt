use Rattle.std.proofs.Common.{sym, ap, ◌∙◌}
use Rattle.syntax.specs.Grammar.{closed}
use Rattle.syntax.specs.Readers.{read_goal, read_content}
use Rattle.parse.specs.Cursors.{rest}
use Rattle.parse.specs.Tokens.{words}
use Rattle.parse.specs.Flat.{content_of}
use Rattle.parse.specs.Scopes.{scope, scope_variables}
use Rattle.parse.proofs.Faults.{faulted_same, faulted_here}
use Rattle.parse.proofs.Chains.{ask_led, goal_led, stop_led, goal_more, goal_all}
use Rattle.parse.proofs.Books.{exit_goal}
use Rattle.parse.proofs.whole.goal.Goals as goal

pub returns-in_err-expect : goal.returns-in_err-expect
unfolding read_goal
returns-in_err-expect c =
    exit_goal c.from_residual.result c.from_residual.ensures.1 (faulted_here c.expect.new.self c.args.ts c.expect.ensures.same (ask_led (read_content 16 closed) (words c.args.ts.now) c.in_err-expect.ensures.told))

pub returns-in_err-items : goal.returns-in_err-items
unfolding read_goal
returns-in_err-items c =
    let s = ap (λ x. read_content 16 (scope x) (rest c.expect.new.self)) (sym c.closed.ensures) in
    exit_goal c.from_residual-in_err-items.result c.from_residual-in_err-items.ensures.1 (faulted_here c.content.new.cursor c.args.ts (c.content.ensures.same ∙ c.expect.ensures.same) (goal_led (read_content 16 closed) (words c.args.ts.now) c.in_ok-expect.ensures.told (faulted_same s c.in_err-items.ensures.told)))

pub returns-in_err-expect-2 : goal.returns-in_err-expect-2
unfolding read_goal
returns-in_err-expect-2 c =
    let k = c.in_ok-items.ensures.told in
    let s = ap (λ x. read_content 16 (scope x) (rest c.expect.new.self)) (sym c.closed.ensures) in
    exit_goal c.from_residual-in_err-expect-2.result c.from_residual-in_err-expect-2.ensures.1 (faulted_here c.expect-2.new.self c.args.ts (c.expect-2.ensures.same ∙ c.content.ensures.same ∙ c.expect.ensures.same) (stop_led (read_content 16 closed) (words c.args.ts.now) c.in_ok-expect.ensures.told (s ∙ k.2) c.in_err-expect-2.ensures.told))

pub returns-then-not-ended : goal.returns-then-not-ended
unfolding read_goal
returns-then-not-ended c =
    let k = c.in_ok-items.ensures.told in
    let s = ap (λ x. read_content 16 (scope x) (rest c.expect.new.self)) (sym c.closed.ensures) in
    let w = c.if-not-ended.ensures in
    faulted_here c.expect-2.new.self c.args.ts (c.expect-2.ensures.same ∙ c.content.ensures.same ∙ c.expect.ensures.same) (record { found = goal_more (read_content 16 closed) (words c.args.ts.now) c.in_ok-expect.ensures.told (s ∙ k.2) c.in_ok-expect-2.ensures.told w.0 w.1 w.2 })

pub returns : goal.returns
unfolding read_goal
returns c =
    let k = c.in_ok-items.ensures.told in
    let s = ap (λ x. read_content 16 (scope x) (rest c.expect.new.self)) (sym c.closed.ensures) in
    (k.0, ap (λ x. content_of (scope_variables x) k.0) (sym c.closed.ensures) ∙ k.1, goal_all (read_content 16 closed) (words c.args.ts.now) c.in_ok-expect.ensures.told (s ∙ k.2) c.in_ok-expect-2.ensures.told c.if-not-ended.ensures)
