use Rattle.std.proofs.Common.{◌≡◌, ◌+◌, ◌≤◌, ◌++◌, reverse, length}
use Rattle.std.specs.Slice.Iter.{iter_rest}
use Rattle.std.specs.Iterator.Adapters.{rev_source}
use Rattle.orders.proofs.depth.DepthFirstOrder.take_in.Given as goal

-- what is left of the list, with the row behind it, is the row that is wanted
abbrev pub invariant-loop-w : goal.invariant-loop-w
invariant-loop-w l =
    (length (iter_rest (rev_source l.w-iterator)) + length l.self.stack.items ≤ 256)
    × (iter_rest (rev_source l.w-iterator) ++ reverse l.self.stack.items ≡ l.list ++ reverse l.initial.self.stack.items)
