use Rattle.std.proofs.Common.{◌≡◌, ◌+◌, ◌≤◌, ◌++◌, length, take, deque_items}
use Rattle.orders.proofs.breadth.BreadthFirstOrder.take_in.Given as goal

abbrev pub invariant-loop-w : goal.invariant-loop-w
invariant-loop-w l =
    (length (deque_items l.initial.self.queue) + length l.list ≤ 256)
    × (deque_items l.self.queue ≡ deque_items l.initial.self.queue ++ take l.w-index l.list)
