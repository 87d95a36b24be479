use Rattle.orders.proofs.Fronts.{whole_row}
use Rattle.orders.proofs.drained.row_from_front.Goals as goal

pub returns : goal.returns
returns g c = whole_row
