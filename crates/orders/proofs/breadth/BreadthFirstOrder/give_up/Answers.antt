use Rattle.std.proofs.Common.{arith}
use Rattle.std.proofs.lemmas.Grind.{common_steps}
use Rattle.orders.specs.Rows.{FirstOut}
use Rattle.orders.proofs.Bagged.{removed_first}
use Rattle.orders.proofs.breadth.BreadthFirstOrder.give_up.Goals as goal

pub returns-clause-bag : goal.returns-clause-bag
returns-clause-bag c =
    let first : FirstOut c.args.self.now.queue.items c.map.result c.remove.new.self.items = grind (arith, common_steps) in
    removed_first _ _ _ first
