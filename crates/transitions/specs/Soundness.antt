-- The states of every walk are sound. Assumes nothing.
use Rattle.std.specs.Prelude.{◌≡◌, ℕ, ◌≤◌, List, [], ◌∷◌, length, ◌≢◌}
use Rattle.tree.specs.Walks.{Path, Standing, branch, choice, Walks}
use Rattle.steps.specs.Program.{Program, Item, rule_at}
use Rattle.steps.specs.State.{Kind, Bindings, Entry, choosing, State, End}
use Rattle.steps.specs.Step.{step}
use Rattle.steps.specs.Walk.{start_of, picked, machine}
use Rattle.transitions.specs.Sound.{Sound}

-- a choice of m stands on top of the stack
pub record Choosing (P : Program) (s : State) (m : ℕ) : Type 0 where
  pub rule : ℕ
  pub bindings : Bindings
  pub below : List Entry
  pub top : s.stack ≡ choosing rule bindings ∷ below
  pub many : m ≡ length (rule_at P rule).body

-- the start of a goal is sound, steps and choices keep soundness, and so every state of a walk is sound; on a branch something is on the
-- stack, and at a choice a choice is on top
pub record Soundness : Type 0 where
  pub starts : (K : Kind) (goal : List Item) → length goal ≤ 16 → Sound (start_of K goal)
  pub steps : (K : Kind) (P : Program) (s : State) → Sound s → Sound (step K P s).0
  pub picks : (s : State) (i : ℕ) → Sound s → Sound (picked s i)
  pub walks : (K : Kind) (P : Program) (goal : List Item) (p : Path) (n : ℕ) (s : State) (st : Standing End) → length goal ≤ 16 → Walks (machine K P goal) p n s st → Sound s
  pub on_branch : (K : Kind) (P : Program) (goal : List Item) (p : Path) (n : ℕ) (s : State) → Walks (machine K P goal) p n s branch → s.stack ≢ []
  pub at_choice : (K : Kind) (P : Program) (goal : List Item) (p : Path) (n m : ℕ) (s : State) → Walks (machine K P goal) p n s (choice m) → Choosing P s m
