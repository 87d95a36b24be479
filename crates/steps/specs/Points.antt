-- Small walks, each for one point of the steps. Assumes nothing.
use Rattle.std.specs.Prelude.{ℕ, List, [], ◌∷◌, pos, codes}
use Rattle.cells.specs.Bounds.{packed}
use Rattle.tree.specs.Walks.{leaf}
use Rattle.steps.specs.State.{number, cell}
use Rattle.steps.specs.State.{cell_for_number, number_too_large, stack_full, End, answer, failed, broken}
use Rattle.steps.specs.Examples.{bounds, sets, Gives, facts, counts, stored}
use Rattle.steps.specs.Cases.{sight, fired}

-- a branch of the goal that breaks or fails at its step of this number
abbrev pub EndsAt : List ℕ → List ℕ → ℕ → End → Type 0
EndsAt book goal n e = Gives {X = Unit {0}} bounds (λ s. tt) book goal [] (n ∷ []) (leaf e) tt

-- eight facts to add, each with a number one higher
abbrev pub eightfold : List ℕ
eightfold = codes "q @ a(N) ==> a(N+1), a(N+1), a(N+1), a(N+1), a(N+1), a(N+1), a(N+1), a(N+1)."

pub record Points : Type 0 where
  -- of two partners the one with the lower identifier is taken
  pub first_partner : Gives bounds facts (codes "p @ g, f(X) <=> h(X).") (codes "?- f(1), f(2), g.") [] (11 ∷ []) (leaf answer) (stored 2 1 (number (pos 2) ∷ []) ∷ stored 4 2 (number (pos 1) ∷ []) ∷ [])
  -- no fact stands at two heads
  pub two_heads_two_facts : Gives bounds counts (codes "p @ g, f(X), f(Y) ==> h.") (codes "?- f(1), g.") [] (7 ∷ []) (leaf answer) (2, 0)
  -- a cell that keeps its members wakes nothing
  pub unchanged : Gives sets counts (codes "p @ f(X) ==> X>70 | g.") (codes "?- f(#0), #0>=0.") [] (4 ∷ []) (leaf answer) (1, 0)
  -- of two woken facts the one with the lower identifier is on top
  pub lowest-woken :
      Gives bounds (sight bounds) (codes "p @ f(X,Y) ==> X>3 | g(Y).") (codes "?- f(#0,1), f(#0,2), #0>5.") [] (21 ∷ []) (leaf answer)
      (record {
        next = 5;
        store = stored 1 0 (cell 0 ∷ number (pos 1) ∷ []) ∷ stored 2 0 (cell 0 ∷ number (pos 2) ∷ []) ∷ stored 3 1 (number (pos 1) ∷ []) ∷ stored 4 1 (number (pos 2) ∷ []) ∷ [];
        history = fired 0 (1 ∷ []) ∷ fired 0 (2 ∷ []) ∷ [];
        cells = (0, packed (pos 6) (pos 1000000000)) ∷ [];
      })
  -- an active fact that has left the store goes on through its occurrences, where nothing fires
  pub gone-but-active :
      Gives bounds (sight bounds) (codes "a @ f(X,1) ==> X>3 | g. b @ g, f(X,1) <=> true. c @ f(X,Y) <=> X>3 | h(Y).") (codes "?- f(#0,1), f(#0,2), #0>5.") [] (28 ∷ []) (leaf answer)
      (record { next = 5; store = stored 4 2 (number (pos 2) ∷ []) ∷ []; history = fired 0 (1 ∷ []) ∷ []; cells = (0, packed (pos 6) (pos 1000000000)) ∷ [] })
  -- a cell is no number, and a variable has one value
  pub unequal :
      Gives bounds facts (codes "p @ f(1) <=> g. q @ f(X), h(X) ==> g.") (codes "?- f(#0), h(1), f(2).") [] (11 ∷ []) (leaf answer)
      (stored 1 0 (cell 0 ∷ []) ∷ stored 2 2 (number (pos 1) ∷ []) ∷ stored 3 0 (number (pos 2) ∷ []) ∷ [])
  -- a guard is not true with a cell on its right, with a cell in a sum, or if its second comparison is not
  pub untrue : Gives bounds counts (codes "p @ f(X,Y) ==> X>=Y | g. q @ f(X,Y) ==> X>=Y+0 | g. r @ f(X,Y) ==> 1<2, 2<1 | g.") (codes "?- f(1,#0).") [] (5 ∷ []) (leaf answer) (1, 0)
  -- a guard's sum has no limit
  pub large_sum : Gives bounds counts (codes "p @ f(X) ==> X<X+1 | g.") (codes "?- f(1000000000).") [] (7 ∷ []) (leaf answer) (2, 1)
  -- a comparison that is false of numbers fails
  pub false_told : EndsAt [] (codes "?- 2<1.") 1 failed
  -- a cell on the right of a told comparison breaks, even against itself
  pub cell_told : EndsAt (codes "q @ f(X) ==> X=X.") (codes "?- f(#0).") 3 (broken cell_for_number)
  -- a body's number has its limit below, too
  pub too_low : EndsAt (codes "s @ c(X) <=> c(X-1).") (codes "?- c(-1000000000).") 3 (broken number_too_large)
  -- the first of causes 1 and 2 decides, and before `fail` is met
  pub first_cause_1 : EndsAt (codes "p @ f(X,Y) ==> fail, g(X+1), g(Y+1).") (codes "?- f(#0,1000000000).") 3 (broken cell_for_number)
  pub first_cause_2 : EndsAt (codes "p @ f(X,Y) ==> fail, g(X+1), g(Y+1).") (codes "?- f(1000000000,#0).") 3 (broken number_too_large)
  -- the stack is looked at after causes 1 and 2
  pub stack_alone : EndsAt eightfold (codes "?- a(0).") 48 (broken stack_full)
  pub stack_later : EndsAt eightfold (codes "?- a(999999985).") 48 (broken number_too_large)
