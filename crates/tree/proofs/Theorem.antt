-- All laws, of any machine.
use Rattle.tree.specs.Walks.{Machine}
use Rattle.tree.specs.Laws.{Laws}
use Rattle.tree.proofs.Fronts.{determined, one_edge, no_further, no_end}
use Rattle.tree.proofs.Histories.{met_once}
use Rattle.tree.proofs.Searched.{account, moves}
use Rattle.tree.proofs.Same.{complete_same}

pub laws : {S E : Type 0} (M : Machine S E) → Laws M
laws M = record {
  determined = determined {M = M};
  one_edge = one_edge {M = M};
  no_further = no_further {M = M};
  no_end = no_end {M = M};
  account = account M;
  one_whole = complete_same M;
  same = λ us vs x y a b e f. complete_same M x.leaves y.leaves x.steps y.steps ((account M us x a).whole e) ((account M vs y b).whole f);
  moves = moves M;
  met_once = met_once M;
}
