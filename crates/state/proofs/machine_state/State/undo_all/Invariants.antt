use Rattle.std.proofs.Common.{◌≡◌, map}
use Rattle.std.specs.Slice.Iter.{iter_rest}
use Rattle.std.specs.Iterator.Adapters.{rev_source}
use Rattle.state.specs.States.{state}
use Rattle.state.specs.Changes.{change, undone}
use Rattle.state.proofs.machine_state.State.undo_all.Given as goal

-- what is left, undone, leads to what is wanted
abbrev pub invariant-loop-change : goal.invariant-loop-change
invariant-loop-change l = undone (map change (iter_rest (rev_source l.change-iterator))) (state l.self) ≡ undone (map change l.changes) (state l.initial.self)
