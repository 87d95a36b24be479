use Rattle.groups.proofs.Shapes.{length_log_max}
use Rattle.groups.proofs.numbers.width_of.Goals as goal

pub returns : goal.returns
returns c = length_log_max _ _ _ c.max.ensures c.ilog2.ensures.power_le c.ilog2.ensures.next_power_gt
