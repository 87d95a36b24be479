-- Changes come back: what is redone can be undone. Assumes nothing.
use Rattle.std.specs.Prelude.{◌≡◌, ◌<◌, ◌≤◌, true, List, [], ◌∷◌, length, slice_index}
use Rattle.steps.specs.State as model
use Rattle.steps.specs.Relations.{In, identifiers}
use Rattle.state.specs.declared.machine_state.State.{State}
use Rattle.state.specs.Orders.{ordered}
use Rattle.state.specs.States.{state}
use Rattle.state.specs.Changes.{Change, added, removed, fired, altered, redo_one, undo_one, redone, undone}

-- a state within its bounds: identifiers rise from 1 on and below the next, at most 128 facts and 256 firings, 32 cells
pub record Sound (s : model.State) : Type 0 where
  pub rising : ordered 0 s.next (identifiers s.store) ≡ true
  pub few : length s.store ≤ 128
  pub short : length s.history ≤ 256
  pub whole : length s.cells ≡ 32

-- what a change asks of the state that it is made in: a fact added has the next identifier, and there is room for it; a fact removed
-- is there; there is room for a firing; a cell altered has the old content
abbrev pub Fits : model.State → Change → Type 0
Fits s (added f) = (f.identifier ≡ s.next) × (s.next < 65535) × (length s.store < 128)
Fits s (removed f) = In f s.store
Fits s (fired f) = length s.history < 256
Fits s (altered k o n) = (k < 32) × (slice_index s.cells k ≡ o)

-- each change fits the state that the changes before it leave
abbrev pub FitAll : model.State → List Change → Type 0
FitAll s [] = Unit {0}
FitAll s (c ∷ cs) = Fits s c × FitAll (redo_one c s) cs

-- every state that the code holds is within its bounds
abbrev pub HeldSound : Type 0
HeldSound = (s : State) → Sound (state s)

-- a change that fits leaves a state within its bounds
abbrev pub StaysSound : Type 0
StaysSound = (s : model.State) → Sound s → (c : Change) → Fits s c → Sound (redo_one c s)

-- a change that fits is undone
abbrev pub ComesBack : Type 0
ComesBack = (s : model.State) → Sound s → (c : Change) → Fits s c → undo_one c (redo_one c s) ≡ s

-- so are changes that fit one after another
abbrev pub AllComeBack : Type 0
AllComeBack = (s : model.State) → Sound s → (cs : List Change) → FitAll s cs → undone cs (redone cs s) ≡ s

-- and the state that they led to is within its bounds
abbrev pub AllSound : Type 0
AllSound = (s : model.State) → Sound s → (cs : List Change) → FitAll s cs → Sound (redone cs s)

-- undone and redone, they lead to where they led
abbrev pub MadeAgain : Type 0
MadeAgain = (s t : model.State) → Sound s → (cs : List Change) → FitAll s cs → t ≡ redone cs s → redone cs (undone cs t) ≡ t
