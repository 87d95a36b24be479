use Rattle.std.proofs.Common.{◌≡◌, map, drop}
use Rattle.state.specs.States.{state}
use Rattle.state.specs.Changes.{change, redone}
use Rattle.state.proofs.machine_state.State.redo_all.Given as goal

abbrev pub invariant-loop-change : goal.invariant-loop-change
invariant-loop-change l = redone (map change (drop l.change-index l.changes)) (state l.self) ≡ redone (map change l.changes) (state l.initial.self)
