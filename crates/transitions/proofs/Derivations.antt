-- Walks are derivations, and derivations are walks. Assumes nothing.
use Rattle.std.proofs.Common.{◌≡◌, ℕ, ◌≤◌, List, [], ◌∷◌, ◌++◌, length, sym, ap, subst}
use Rattle.tree.specs.Walks.{Path, Standing, branch, choice, Walks, opened, onward, taken}
use Rattle.steps.specs.Program.{Program, Item}
use Rattle.steps.specs.State.{Kind, Entry, choosing, State, End}
use Rattle.steps.specs.Step.{with_stack}
use Rattle.steps.specs.Walk.{picked, machine}
use Rattle.transitions.specs.Lawful.{Lawful, SixVariables}
use Rattle.transitions.specs.Soundness.{Choosing}
use Rattle.transitions.specs.Derivations.{Derives, initial, transition, alternated, WalksByTransitions}
use Rattle.transitions.proofs.One.{one_transition}
use Rattle.transitions.proofs.Soundness.{walk_sound, walk_stacked, picked_is}

module _ (K : Kind) (P : Program) (goal : List Item) (law : Lawful K) (six : SixVariables P) (few : length goal ≤ 16) where
  derived : {p : Path} {n : ℕ} {s : State} {st : Standing End} → Walks (machine K P goal) p n s st → Derives K P goal p n s st
  derived opened = initial
  derived (onward {s = s} {t = t} {st = st} e w) =
      transition ((one_transition.one K P s (t, st) law six (walk_sound K P goal few w) (walk_stacked K P goal w)).1 (sym e)) (derived w)
  derived (taken {p = p} {n = n} {m = m} {s = s} i a b w) = at (walk_stacked K P goal w) (derived w)
    where
      at : Choosing P s m → Derives K P goal p n s (choice m) → Derives K P goal (p ++ (i ∷ [])) 0 (picked s i) branch
      at c d =
          let top : s ≡ with_stack s (choosing c.rule c.bindings ∷ c.below) = ap (λ (A : List Entry). with_stack s A) c.top in
          let e : Derives K P goal p n (with_stack s (choosing c.rule c.bindings ∷ c.below)) (choice m) = subst (λ (z : State). Derives K P goal p n z (choice m)) top d in
          subst (λ (z : State). Derives K P goal (p ++ (i ∷ [])) 0 z branch) (sym (picked_is P s m i c)) (alternated i a b e)

  walked : {p : Path} {n : ℕ} {s : State} {st : Standing End} → Derives K P goal p n s st → Walks (machine K P goal) p n s st
  walked initial = opened
  walked (transition {s = s} {t = t} {st = st} x d) =
      let w = walked d in
      onward (sym ((one_transition.one K P s (t, st) law six (walk_sound K P goal few w) (walk_stacked K P goal w)).0 x)) w
  walked (alternated i a b d) = taken i a b (walked d)

pub walks_by_transitions : WalksByTransitions
walks_by_transitions = record {
  one = λ K P goal law six few p n s w o. one_transition.one K P s o law six (walk_sound K P goal few w) (walk_stacked K P goal w);
  same = λ K P goal law six few p n s st. (λ w. derived K P goal law six few w, λ d. walked K P goal law six few d);
}
