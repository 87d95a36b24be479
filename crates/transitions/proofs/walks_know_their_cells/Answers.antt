use Rattle.transitions.proofs.Cells.{cells_known}
use Rattle.transitions.proofs.walks_know_their_cells.Goals as goal

pub returns : goal.returns
returns c = cells_known
