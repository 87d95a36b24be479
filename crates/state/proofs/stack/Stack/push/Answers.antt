use Rattle.std.proofs.Common.{arith}
use Rattle.std.proofs.lemmas.Grind.{common_steps}
use Rattle.facts.specs.Views.{entry}
use Rattle.state.proofs.Tops.{turned, long}
use Rattle.state.proofs.stack.Stack.push.Goals as goal

pub returns : goal.returns
returns c =
    let s = c.args.self.now in
    grind (arith, common_steps, long entry s.list.items, turned entry s.list.items c.push.new.self.items c.args.top)
