use Rattle.std.proofs.Common.{◌≡◌, suc, ◌-◌, ◌<◌, length, subst, arith}
use Rattle.lexed.proofs.Backward.{MarkedFrom, marked_none, marked_all, marked_more}
use Rattle.lexed.proofs.marking.mark.Goals as goal

pub loop-i-init : goal.loop-i-init
loop-i-init c = marked_none c.args.list.now

pub loop-i-preserved : goal.loop-i-preserved
loop-i-preserved c =
    let i = c.loop-i.i in
    let e : i ≡ suc (i - 1) = omega arith in
    let h : i - 1 < length c.args.list.now = omega (arith, c.loop-i.auto.i) in
    let inv = subst (λ k. MarkedFrom c.args.list.now c.loop-i.list c.loop-i.colon c.loop-i.guard k) e c.loop-i.invariant in
    marked_more c.args.list.now c.loop-i.list c.loop-i.colon c.loop-i.guard (i - 1) c.index-list-i.result inv c.loop-i.auto.list h c.index-list-i.is
    c.marked_by.result c.is_colon-colon.result c.guard_from-ahead.result c.starts_at-starts.result
    c.guard_from-ahead.ensures c.starts_at-starts.ensures c.marked_by.ensures.word c.marked_by.ensures.place c.is_colon-colon.ensures

pub returns : goal.returns
returns c =
    let r = marked_all c.args.list.now c.loop-i.list c.loop-i.colon c.loop-i.guard c.loop-i.i c.loop-i-test.false c.loop-i.invariant in
    record { words = r.0; places = r.1 }
