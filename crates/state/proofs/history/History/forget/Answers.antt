use Rattle.std.proofs.Common.{arith}
use Rattle.std.proofs.lemmas.Grind.{common_steps}
use Rattle.facts.specs.Views.{firing}
use Rattle.state.proofs.Ends.{popped_off}
use Rattle.state.proofs.history.History.forget.Goals as goal

pub returns : goal.returns
returns c = grind (arith, common_steps, popped_off firing c.args.self.now.list.items c.pop.new.self.items)
