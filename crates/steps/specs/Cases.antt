-- Further walks, with all that is seen of the state: cells, woken facts, guards over cells, and broken ends. Assumes nothing.
use Rattle.std.specs.Prelude.{ℕ, suc, true, false, List, [], ◌∷◌, pos, negsuc, codes, ◌==◌}
use Rattle.cells.specs.Bounds.{packed}
use Rattle.cells.specs.Sets.{window}
use Rattle.tree.specs.Walks.{leaf}
use Rattle.steps.specs.State.{Kind, number, cell, Stored, Firing, State}
use Rattle.steps.specs.State.{cell_for_number, number_too_large, store_full, history_full, answer, failed, broken}
use Rattle.steps.specs.Examples.{bounds, sets, Gives, stored, counts}

-- the cells from number k on that are not whole, with their contents
abbrev pub altered : ℕ → ℕ → List ℕ → List (ℕ × ℕ)
altered whole k [] = []
altered whole k (c ∷ cs) = elim (c == whole) [ true ↦ altered whole (suc k) cs | false ↦ (k, c) ∷ altered whole (suc k) cs ]

-- a state but for its stack
pub record Sight : Type 0 where
  pub next : ℕ
  pub store : List Stored
  pub history : List Firing
  pub cells : List (ℕ × ℕ)

abbrev pub sight : Kind → State → Sight
sight K s = record { next = s.next; store = s.store; history = s.history; cells = altered K.whole 0 s.cells }

-- a firing of a rule's number with identifiers
abbrev pub fired : ℕ → List ℕ → Firing
fired r is = record { rule = r; identifiers = is }

pub record Cases : Type 0 where
  -- a fact is woken twice, and its guard is never true
  pub woken-twice :
      Gives bounds (sight bounds) (codes "a @ f(X) ==> X>3 | g.") (codes "?- f(#3), #3>-2, #3=<-1, 0<3, f(#3).") [] (15 ∷ []) (leaf answer)
      (record { next = 3; store = stored 1 0 (cell 3 ∷ []) ∷ stored 2 0 (cell 3 ∷ []) ∷ []; history = []; cells = (3, packed (negsuc 0) (negsuc 0)) ∷ [] })
  -- two facts are woken; the first fires with the second and both leave, and the woken second is passed over
  pub woken-and-gone :
      Gives bounds (sight bounds) (codes "a @ w(X), w(Y) <=> X>3, Y>3 | o. b @ w(X) ==> X>5 | p(X).") (codes "?- w(#0), w(#0), w(#1), #0>6, #1>6.") [] (36 ∷ []) (leaf answer)
      (record {
        next = 6;
        store = stored 3 0 (cell 1 ∷ []) ∷ stored 4 1 [] ∷ stored 5 2 (cell 1 ∷ []) ∷ [];
        history = fired 1 (3 ∷ []) ∷ [];
        cells = (0, packed (pos 7) (pos 1000000000)) ∷ (1, packed (pos 7) (pos 1000000000)) ∷ [];
      })
  -- sets, along a path of two choices, to a comparison that leaves no member
  pub no_member :
      Gives sets (sight sets) (codes "c@s(X)<=>X>3;X=<3;X=7.p@k(X,Y)==>X>3|m(X),Y<0.q@k(X,Y)==>X=<3|m(Y),s(Y).") (codes "?-k(#0,#1),#1>=2,s(#0),#1=<5,k(#1,#0).")
      (2 ∷ 1 ∷ []) (12 ∷ 11 ∷ 23 ∷ []) (leaf failed)
      (record {
        next = 7;
        store = stored 1 1 (cell 0 ∷ cell 1 ∷ []) ∷ stored 3 2 (cell 1 ∷ []) ∷ stored 5 1 (cell 1 ∷ cell 0 ∷ []) ∷ stored 6 2 (cell 1 ∷ []) ∷ [];
        history = fired 2 (1 ∷ []) ∷ fired 1 (5 ∷ []) ∷ [];
        cells = (0, window 0 3) ∷ (1, window 4 5) ∷ [];
      })
  -- a cell in a body's sum, though the sum adds 0
  pub breaks-by-1 :
      Gives bounds (sight bounds) (codes "s@ c(X)==>d(1), d(X-0). u@ d(X)==>e.") (codes "?-c(0), c(#21).") [] (22 ∷ []) (leaf (broken cell_for_number))
      (record {
        next = 7;
        store = stored 1 0 (number (pos 0) ∷ []) ∷ stored 2 1 (number (pos 1) ∷ []) ∷ stored 3 2 [] ∷ stored 4 1 (number (pos 0) ∷ []) ∷ stored 5 2 [] ∷ stored 6 0 (cell 21 ∷ []) ∷ [];
        history = fired 0 (1 ∷ []) ∷ fired 1 (2 ∷ []) ∷ fired 1 (4 ∷ []) ∷ fired 0 (6 ∷ []) ∷ [];
        cells = [];
      })
  -- a sum beyond 1,000,000,000
  pub breaks_by_2 : Gives bounds (sight bounds) (codes "s@ c(X) <=> c(X+1).") (codes "?- c(999999999).") [] (6 ∷ []) (leaf (broken number_too_large)) (record { next = 3; store = []; history = []; cells = [] })
  -- a 129th fact
  pub breaks_by_3 : Gives bounds counts (codes "s@n(X)<=>X>0|f(X),n(X-1).z@n(X)<=>true.") (codes "?- n(131).") [] (641 ∷ []) (leaf (broken store_full)) (128, 0)
  -- a 257th firing, which a 129th entry would come with
  pub breaks-by-5 :
      Gives bounds counts (codes "p1@ f(X), f(Y)==>true. p2@ f(X), f(Y)==>true. s@ m(X)<=>X>0|f(X), m(X-1). z@ m(0)<=>n(113). q@ n(X)==>X>0|n(X-1). e@ n(0)==>g. u@ g<=>true.")
      (codes "?-m(9),g,g,g,g,g,g,g,g,g,g,g,g,g,g,g.") [] (711 ∷ []) (leaf (broken history_full)) (122, 256)
