use Rattle.std.proofs.Common.{arith}
use Rattle.std.proofs.lemmas.Grind.{common_steps}
use Rattle.facts.specs.Views.{entry}
use Rattle.state.proofs.Tops.{turned}
use Rattle.state.proofs.stack.Stack.pop.Goals as goal

pub returns : goal.returns
returns c = grind (arith, common_steps, turned entry c.pop.new.self.items c.args.self.now.list.items)
