use Rattle.std.proofs.Common.{arith}
use Rattle.std.proofs.lemmas.List.Sorted.{length_permutation, IsPermutation-refl, IsPermutation-map, IsPermutation-pop_more}
use Rattle.orders.specs.declared.branches.Waiting.{Waiting}
use Rattle.orders.specs.Drains.{nothing, further}
use Rattle.orders.proofs.drained.drain.Goals as goal

pub loop-number-init : goal.loop-number-init
loop-number-init g c =
    let few = g.met.O.Order.few c.args.order.now in
    let m = c.in_ok-given.ensures in
    (omega arith, omega arith, rw m.items (IsPermutation-refl _), rw m.items nothing)

pub push_reserved-requires : goal.push_reserved-requires
push_reserved-requires g c =
    let fewer = length_permutation _ _ c.in-Some.ensures.bag.1 in
    omega arith

pub loop-number-preserved : goal.loop-number-preserved
loop-number-preserved g c =
    let i = c.loop-number.invariant in
    let p = c.push_reserved.ensures in
    let b = c.in-Some.ensures.bag.1 in
    let fewer = length_permutation _ _ b in (
      omega arith,
      omega arith,
      rw p.items (IsPermutation-pop_more _ _ _ _ _ i.2 (IsPermutation-map (λ (w : Waiting). w.number) _ _ b)),
      rw p.items (further c.in-Some.number c.give_up.new.self c.in-Some.ensures.gives i.3),
    )

pub loop-number-smaller : goal.loop-number-smaller
loop-number-smaller g c =
    let fewer = length_permutation _ _ c.in-Some.ensures.bag.1 in
    omega arith
