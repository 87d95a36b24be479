-- Changes of a state, redone and undone. Neither touches the stack. Assumes nothing.
use Rattle.std.specs.Prelude.{ℕ, List, [], ◌∷◌, slice_set}
use Rattle.facts.specs.Views.{stored, firing}
use Rattle.steps.specs.State.{State, Stored, Firing}
use Rattle.steps.specs.Step.{without}
use Rattle.state.specs.declared.change.Change.{Change as CodeChange}
use Rattle.state.specs.declared.change.Change.TheVariants as code
use Rattle.state.specs.Lists.{all_but_last}
use Rattle.state.specs.Stores.{followed, followed_next, returned, last_or}
use Rattle.state.specs.Histories.{with_firing}

pub data Change : Type 0 where
  added : Stored → Change
  removed : Stored → Change
  fired : Firing → Change
  -- a cell, its old content and its new one
  altered : ℕ → ℕ → ℕ → Change

abbrev pub change : CodeChange → Change
change (code.Added f) = added (stored f)
change (code.Removed f) = removed (stored f)
change (code.Fired f) = fired (firing f)
change (code.Altered k o n) = altered k.index o n

-- a state with another store and next identifier
abbrev pub stored_as : State → List Stored → ℕ → State
stored_as s facts next = record { stack = s.stack; store = facts; cells = s.cells; history = s.history; next = next }

-- a state with another history
abbrev pub fired_as : State → List Firing → State
fired_as s history = record { stack = s.stack; store = s.store; cells = s.cells; history = history; next = s.next }

-- a state with other contents
abbrev pub filled_as : State → List ℕ → State
filled_as s cells = record { stack = s.stack; store = s.store; cells = cells; history = s.history; next = s.next }

abbrev pub redo_one : Change → State → State
redo_one (added f) s = stored_as s (followed s.next f s.store) (followed_next s.next f s.store)
redo_one (removed f) s = stored_as s (without (f.identifier ∷ []) s.store) s.next
redo_one (fired f) s = fired_as s (with_firing f s.history)
redo_one (altered k o n) s = filled_as s (slice_set s.cells k n)

abbrev pub undo_one : Change → State → State
undo_one (added f) s = stored_as s (all_but_last s.store) (last_or s.next s.store)
undo_one (removed f) s = stored_as s (returned s.next f s.store) s.next
undo_one (fired f) s = fired_as s (all_but_last s.history)
undo_one (altered k o n) s = filled_as s (slice_set s.cells k o)

-- changes redone, the first one first
abbrev pub redone : List Change → State → State
redone [] s = s
redone (c ∷ cs) s = redone cs (redo_one c s)

-- changes undone, the last one first
abbrev pub undone : List Change → State → State
undone [] s = s
undone (c ∷ cs) s = undo_one c (undone cs s)
