-- A firing enters the history. Assumes nothing.
use Rattle.std.proofs.Common.{◌≡◌, ◌<◌, List, [], ◌∷◌, ◌++◌, length, lt-ltb}
use Rattle.steps.specs.State.{Firing}
use Rattle.state.specs.Histories.{with_firing}

pub recorded : (f : Firing) (fs : List Firing) → length fs < 256 → with_firing f fs ≡ fs ++ (f ∷ [])
recorded f fs h = rw (lt-ltb (length fs) 256 h, with_firing)
