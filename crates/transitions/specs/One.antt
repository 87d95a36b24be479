-- The relation of transitions and the computed step are one. Assumes nothing.
use Rattle.std.specs.Prelude.{◌≡◌, ◌↔◌, [], ◌≢◌}
use Rattle.steps.specs.Program.{Program}
use Rattle.steps.specs.State.{Kind, State}
use Rattle.steps.specs.Step.{Outcome, step}
use Rattle.steps.specs.Transitions.{Transition}
use Rattle.transitions.specs.Lawful.{Lawful, SixVariables}
use Rattle.transitions.specs.Sound.{Sound}

-- from a sound state with something on its stack there is exactly one transition, the computed step; with an empty stack there is none
pub record OneTransition : Type 0 where
  pub one : (K : Kind) (P : Program) (s : State) (o : Outcome) → Lawful K → SixVariables P → Sound s → (s.stack ≢ []) → Transition K P s o ↔ (o ≡ step K P s)
  pub none : (K : Kind) (P : Program) (s : State) (o : Outcome) → s.stack ≡ [] → Transition K P s o → ⊥
