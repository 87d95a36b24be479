-- Walks as derivations: transition by transition, and at a choice one of its alternatives. Assumes nothing.
use Rattle.std.specs.Prelude.{◌≡◌, ℕ, ◌+◌, ◌≤◌, ◌↔◌, List, [], ◌∷◌, ◌++◌, length}
use Rattle.tree.specs.Walks.{Path, Standing, branch, choice, Walks}
use Rattle.steps.specs.Program.{Program, Item}
use Rattle.steps.specs.State.{Kind, Bindings, Stored, Entry, alternative, choosing, Firing, State, End}
use Rattle.steps.specs.Step.{Outcome, stands, step}
use Rattle.steps.specs.Walk.{start_of, machine}
use Rattle.steps.specs.Transitions.{state, Transition}
use Rattle.transitions.specs.Lawful.{Lawful, SixVariables}

-- Derives K P goal p n s st: from the goal, along path p, after n transitions since p's last alternative was taken, state s, standing at st
pub data Derives (K : Kind) (P : Program) (goal : List Item) : Path → ℕ → State → Standing End → Type 0 where
  initial : Derives K P goal [] 0 (start_of K goal) (stands (start_of K goal).stack)
  transition : {p : Path} {n : ℕ} {s t : State} {st : Standing End} → Transition K P s (t, st) → Derives K P goal p n s branch → Derives K P goal p (n + 1) t st
  -- one of the alternatives takes the place of the choice
  alternated : {p : Path} {n m r : ℕ} {θ : Bindings} {A : List Entry} {S : List Stored} {B : List ℕ} {T : List Firing} {k : ℕ} (i : ℕ) → 1 ≤ i → i ≤ m →
      Derives K P goal p n (state (choosing r θ ∷ A) S B T k) (choice m) → Derives K P goal (p ++ (i ∷ [])) 0 (state (alternative r i θ ∷ A) S B T k) branch

-- with a kind that keeps its laws: on a branch a walk has exactly one transition, and the walks are the derivations
pub record WalksByTransitions : Type 0 where
  pub one : (K : Kind) (P : Program) (goal : List Item) → Lawful K → SixVariables P → length goal ≤ 16 →
      (p : Path) (n : ℕ) (s : State) → Walks (machine K P goal) p n s branch → (o : Outcome) → Transition K P s o ↔ (o ≡ step K P s)
  pub same : (K : Kind) (P : Program) (goal : List Item) → Lawful K → SixVariables P → length goal ≤ 16 →
      (p : Path) (n : ℕ) (s : State) (st : Standing End) → Walks (machine K P goal) p n s st ↔ Derives K P goal p n s st
