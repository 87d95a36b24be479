use Rattle.std.proofs.Common.{◌≡◌, arith}
use Rattle.std.proofs.lemmas.Grind.{common_steps}
use Rattle.state.specs.States.{state}
use Rattle.state.specs.Changes.{change, undo_one}
use Rattle.state.proofs.Runs.{undo_turn}
use Rattle.state.proofs.machine_state.State.undo_all.Goals as goal

pub loop-change-preserved : goal.loop-change-preserved
loop-change-preserved c =
    let undone : state c.undo.new.self ≡ undo_one (change c.in-Some.change.now) (state c.loop-change.self) = grind (arith, common_steps) in
    undo_turn _ _ c.in-Some.change.now (state c.loop-change.self) (state c.undo.new.self) _ c.in-Some.ensures.steps undone c.loop-change.invariant
