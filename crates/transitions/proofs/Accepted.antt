-- The theorems for texts. Assumes nothing.
use Rattle.std.proofs.Common.{List}
use Rattle.steps.specs.Program.{Program, Item, program_of, goal_items}
use Rattle.steps.specs.State.{Kind}
use Rattle.transitions.specs.Lawful.{Lawful}
use Rattle.transitions.specs.Texts.{FitProgram, FitGoal}
use Rattle.transitions.specs.Accepted.{WalksWell, AcceptedWalks}
use Rattle.transitions.proofs.Cells.{cells_known}
use Rattle.transitions.proofs.Derivations.{walks_by_transitions}
use Rattle.transitions.proofs.Goals.{plain_starts}
use Rattle.transitions.proofs.Soundness.{soundness}
use Rattle.transitions.proofs.Texts.{texts_fit}

walk_well : (K : Kind) (P : Program) (goal : List Item) → Lawful K → FitProgram P → FitGoal goal → WalksWell K P goal
walk_well K P goal law f g =
    let e = plain_starts.entries goal g.plain in
    record {
      starts = (e.0, e.1, plain_starts.starts K goal e.0 e.1);
      one = walks_by_transitions.one K P goal law f.six g.few;
      same = walks_by_transitions.same K P goal law f.six g.few;
      sound = λ p n s st w. (soundness.walks K P goal p n s st g.few w, cells_known.walks K P goal law f.six f.known g.known g.few p n s st w);
      still = cells_known.still K P goal law f.six f.known g.known g.few f.small;
    }

pub accepted_walks : AcceptedWalks
accepted_walks K law book goal b is e h = walk_well K (program_of b) (goal_items b.predicates is) law (texts_fit.books book b e) (texts_fit.goals b.predicates goal is h)
