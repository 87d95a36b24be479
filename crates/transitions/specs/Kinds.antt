-- The two kinds of cell keep the laws. Assumes nothing.
use Rattle.steps.specs.Examples.{bounds, sets}
use Rattle.transitions.specs.Lawful.{Lawful}

pub record BothLawful : Type 0 where
  pub bounds_kind : Lawful bounds
  pub sets_kind : Lawful sets
