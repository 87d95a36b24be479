use Rattle.std.proofs.Common.{◌<◌, ◌≤◌, map, length, sym, refl, ap, ◌∙◌, subst}
use Rattle.syntax.specs.Grammar.{next_all}
use Rattle.parse.specs.Cursors.{whole, rest}
use Rattle.parse.specs.Rows.{row_view, row_value}
use Rattle.parse.specs.Scopes.{Grown}
use Rattle.parse.specs.Tokens.{sign_code}
use Rattle.parse.proofs.Faults.{exit}
use Rattle.parse.proofs.Loops.{over_found, gathers_none, gathers_over, gathers_fault, gathers_stop, gathers_next, row_grown, row_longer}
use Rattle.parse.proofs.parts.parts.Goals as goal

pub loop-turn-init : goal.loop-turn-init
loop-turn-init g c = record {
  same = refl;
  gathers = gathers_none g.P.Begins.first (sign_code c.args.mark) g.P.Part.reader g.P.Part.next (g.R.Row.number c.args.most) g.P.Part.value (g.S.Variables.holds c.args.scope.now) (rest c.args.cursor.now) _ (ap (map g.P.Part.view) (sym c.new-row.ensures));
  count = ap length c.new-row.ensures;
}

pub returns-in_err-part-clause-told : goal.returns-in_err-part-clause-told
returns-in_err-part-clause-told g c =
    let few = subst (λ n. c.loop-turn._turn < n) c.number-turn-end.ensures c.loop-turn-test.true in
    exit (Grown (row_view g.P.Part.view g.R.Row.held) (row_value g.P.Part.value) (next_all g.P.Part.next) (g.S.Variables.holds c.args.scope.now) (g.S.Variables.holds c.read.new.scope)) c.read.new.cursor c.from_residual.result c.from_residual.ensures.1 (gathers_fault c.loop-turn.invariant.gathers few c.in_err-part.ensures.told)

pub returns-then-not-skip-clause-told : goal.returns-then-not-skip-clause-told
returns-then-not-skip-clause-told g c =
    let so = c.loop-turn.invariant in
    let k = c.in_ok-part.ensures.told in
    let s = c.if-not-skip.ensures.told in
    let few = subst (λ n. c.loop-turn._turn < n) c.number-turn-end.ensures c.loop-turn-test.true in
    let grown = c.in_ok-add.ensures c.args.most (subst (λ n. n < g.R.Row.number c.args.most) (sym so.count) few) in
    gathers_stop so.gathers few g.met.P.Part.keeps k.0 _ (g.P.Part.view c.in_ok-part.part) k.1.0 k.1.1 _ k.2 _ (row_grown g.P.Part.view (g.R.Row.held c.loop-turn.row) c.in_ok-part.part grown) _ s.0 s.1

pub loop-turn-preserved : goal.loop-turn-preserved
loop-turn-preserved g c =
    let so = c.loop-turn.invariant in
    let k = c.in_ok-part.ensures.told in
    let s = c.if-not-skip.ensures.told in
    let few = subst (λ n. c.loop-turn._turn < n) c.number-turn-end.ensures c.loop-turn-test.true in
    let grown = c.in_ok-add.ensures c.args.most (subst (λ n. n < g.R.Row.number c.args.most) (sym so.count) few) in
    record {
      same = c.skip.ensures.same ∙ c.read.ensures.same ∙ so.same;
      gathers = gathers_next so.gathers few g.met.P.Part.keeps k.0 _ (g.P.Part.view c.in_ok-part.part) k.1.0 k.1.1 _ k.2 _ (row_grown g.P.Part.view (g.R.Row.held c.loop-turn.row) c.in_ok-part.part grown) _ s.0 s.1;
      count = row_longer (g.R.Row.held c.loop-turn.row) c.in_ok-part.part c.loop-turn._turn so.count grown;
    }

pub returns-clause-told : goal.returns-clause-told
returns-clause-told g c =
    let at = c.loop-turn.cursor in
    let all = subst (λ n. n ≤ c.loop-turn._turn) c.number-turn-end.ensures c.loop-turn-test.false in
    gathers_over c.loop-turn.invariant.gathers all (whole at) c.one_too_many.result (over_found (whole at) c.one_too_many.result g.P.Begins.first at.at c.one_too_many.ensures)
