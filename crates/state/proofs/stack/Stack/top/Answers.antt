use Rattle.state.proofs.Tops.{on_top}
use Rattle.state.proofs.stack.Stack.top.Goals as goal

pub returns : goal.returns
returns c = let top = on_top c.args.self.now.list.items in cc
