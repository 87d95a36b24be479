-- The propagation history as the list of its firings. Assumes nothing.
use Rattle.std.specs.Prelude.{true, false, List, [], ◌∷◌, ◌++◌, map, length, nat_lt}
use Rattle.facts.specs.Views.{firing}
use Rattle.steps.specs.State.{Firing}
use Rattle.state.specs.declared.history.History.{History}

abbrev pub firings_of : History → List Firing
firings_of h = map firing h.list.items

-- one more firing behind the others, unless 256 are there
abbrev pub with_firing : Firing → List Firing → List Firing
with_firing f fs = elim (nat_lt (length fs) 256) [ true ↦ fs ++ (f ∷ []) | false ↦ fs ]
