use Rattle.std.proofs.Common.{reverse, arith, ◌≡◌, ◌++◌}
use Rattle.std.proofs.lemmas.Grind.{common_steps}
use Rattle.std.proofs.lemmas.List.{length-reverse}
use Rattle.orders.proofs.Bagged.{joined_in_front}
use Rattle.orders.proofs.depth.DepthFirstOrder.take_in.Goals as goal

pub returns-clause-bag : goal.returns-clause-bag
returns-clause-bag c =
    let row = reverse c.args.self.now.stack.items in
    let e : reverse c.loop-w.self.stack.items ≡ c.args.list.now ++ row = grind (arith, common_steps) in
    (omega (arith, length-reverse c.args.self.now.stack.items, c.args.self.now.stack.few), joined_in_front row c.args.list.now _ e)
