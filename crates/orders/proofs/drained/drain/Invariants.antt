use Rattle.std.proofs.Common.{◌+◌, ◌≤◌, ◌++◌, length, vec_items, vec_len, vec_capacity}
use Rattle.std.specs.List.Sorted.{IsPermutation}
use Rattle.orders.specs.Drains.{numbers, Gave}
use Rattle.orders.proofs.drained.drain.Given as goal

-- what was given and what waits are together what waited at the start
abbrev pub invariant-loop-number : goal.invariant-loop-number
invariant-loop-number g l =
    (256 ≤ vec_capacity l.given)
    × (vec_len l.given + length (g.O.Order.bag l.order) ≤ 256)
    × IsPermutation (numbers (g.O.Order.bag l.initial.order)) (vec_items l.given ++ numbers (g.O.Order.bag l.order))
    × Gave g.O.Order.gives l.initial.order (vec_items l.given) l.order

abbrev pub decreases-loop-number : goal.decreases-loop-number
decreases-loop-number g l = length (g.O.Order.bag l.order)
