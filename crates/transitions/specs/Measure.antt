-- What is left to do on the stack: it falls with each step that alters nothing else. Assumes nothing.
use Rattle.std.specs.Prelude.{◌≡◌, ℕ, suc, ◌+◌, ◌-◌, ◌<◌, ◌≤◌, List, [], ◌∷◌, length, ℤ}
use Rattle.cells.specs.declared.relations.Telling.{Telling}
use Rattle.tree.specs.Walks.{branch}
use Rattle.steps.specs.Program.{Program, Rule, Alternative, rule_at, alternative_at, occurrences}
use Rattle.steps.specs.State.{Kind, cell, Entry, to_add, to_tell, to_fail, woken, active, alternative, choosing, State}
use Rattle.steps.specs.Relations.{In}
use Rattle.steps.specs.Transitions.{Transition}
use Rattle.transitions.specs.Sound.{Sound}

-- 1 for what is to add, tell or fail, and for a choice; an alternative has 1 more than its items, an active fact 1 more than the
-- occurrences left to it, a woken fact 1 more than when it is active at its first occurrence
abbrev pub weight_of : Program → Entry → ℕ
weight_of P (to_add f) = 1
weight_of P (to_tell v t z) = 1
weight_of P to_fail = 1
weight_of P (woken f) = suc (suc (length (occurrences P f.fact.predicate)))
weight_of P (active f j) = suc (suc (length (occurrences P f.fact.predicate)) - j)
weight_of P (alternative r i θ) = suc (length (alternative_at (rule_at P r) i).items)
weight_of P (choosing r θ) = 1

-- the weight of a stack
abbrev pub load : Program → List Entry → ℕ
load P [] = 0
load P (e ∷ es) = weight_of P e + load P es

-- a comparison on top is told of a number, or of one of the cells
abbrev pub TopKnown : ℕ → List Entry → Type 0
TopKnown n A = (k : ℕ) (t : Telling) (z : ℤ) (below : List Entry) → A ≡ to_tell (cell k) t z ∷ below → k < n

-- a transition on a branch that alters neither store, cells nor history
pub record Quiet (K : Kind) (P : Program) (s t : State) : Type 0 where
  pub moves : Transition K P s (t, branch)
  pub known : TopKnown (length s.cells) s.stack
  pub store : t.store ≡ s.store
  pub cells : t.cells ≡ s.cells
  pub history : t.history ≡ s.history

-- so many in a row
pub data Quietly (K : Kind) (P : Program) : State → ℕ → State → Type 0 where
  rests : {s : State} → Quietly K P s 0 s
  moves_on : {s t u : State} {n : ℕ} → Quiet K P s t → Quietly K P t n u → Quietly K P s (suc n) u

-- at most 96 occurrences of a predicate, and at most 8 items in an alternative
pub record Small (P : Program) : Type 0 where
  pub few_occurrences : (p : ℕ) → length (occurrences P p) ≤ 96
  pub few_items : (x : Rule) (a : Alternative) → In x P → In a x.body → length a.items ≤ 8

-- a quiet transition lowers the load by 1 at least; in a small program an entry weighs at most 99, so a sound stack at most 128 · 99, and
-- no more than 12,672 transitions in a row are quiet
pub record Measure : Type 0 where
  pub lowers : (K : Kind) (P : Program) (s t : State) → Quiet K P s t → load P t.stack < load P s.stack
  pub light : (P : Program) (e : Entry) → Small P → weight_of P e ≤ 99
  pub whole : (P : Program) (s : State) → Small P → Sound s → load P s.stack ≤ 12672
  pub few_quiet : (K : Kind) (P : Program) (s t : State) (n : ℕ) → Small P → Sound s → Quietly K P s n t → n ≤ 12672
