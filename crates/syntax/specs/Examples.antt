-- A few texts, and what the readers make of their words as written. Assumes nothing.
use Rattle.std.specs.Prelude.{◌≡◌, ℕ, zero, suc, List, [], ◌∷◌, ◌++◌}
use Rattle.syntax.specs.Syntax.{W, name, var, num, weight, sign, Out, ok, barred, flawed}
use Rattle.syntax.specs.Parts.{last, more}
use Rattle.syntax.specs.Marks.{at_mark, comma, dot, semicolon, bar, backslash, open_mark, close_mark, plus, minus, colon, hash, ask, less, simplify, propagate, true_word, fail_word, different}
use Rattle.syntax.specs.Tree.{positive, alone, raised, cell, variable, number, fixed, summed, held, valued, applied, is_less, tells_less, compared, added, told, Content, nil, items, plainly, weighted, none, guarded, simplifying, simpagating, named, Rule, rule}
use Rattle.syntax.specs.Readers.{read_book, read_goal}
use Rattle.syntax.specs.Marking.{marked}

-- the names `r`, `p` and `q` at a place, and the variable `X`
abbrev r_name : ℕ → W
r_name at = name at (114 ∷ [])

abbrev p_name : ℕ → W
p_name at = name at (112 ∷ [])

abbrev q_name : ℕ → W
q_name at = name at (113 ∷ [])

abbrev XName : List ℕ
XName = 88 ∷ []

abbrev book : List W → Out (List Rule)
book ws = read_book (marked ws)

abbrev goal : List W → Out Content
goal ws = read_goal (marked ws)

-- `(X)`
abbrev of_X : List W → List W
of_X r = sign open_mark ∷ var XName ∷ sign close_mark ∷ r

-- the words ws so many times, and then r
abbrev times : ℕ → List W → List W → List W
times zero ws r = r
times (suc n) ws r = ws ++ times n ws r

-- `r @ p(X) <=>` and then r
abbrev simplifying_X : List W → List W
simplifying_X r = r_name 0 ∷ sign at_mark ∷ p_name 4 ∷ of_X (sign simplify ∷ r)

-- a variable of one letter
abbrev letter : ℕ → W
letter v = var (v ∷ [])

-- `r @ p(A,B,A), q(C,D,E), p(F` and then r
abbrev six_variables : List W → List W
six_variables r =
    r_name 0 ∷ sign at_mark ∷ p_name 4 ∷ sign open_mark ∷ letter 65 ∷ sign comma ∷ letter 66 ∷ sign comma ∷ letter 65 ∷ sign close_mark ∷ sign comma ∷ q_name 13 ∷ sign open_mark ∷ letter 67 ∷ sign comma ∷ letter 68 ∷ sign comma ∷ letter 69 ∷ sign close_mark ∷ sign comma ∷ p_name 22 ∷ sign open_mark ∷ letter 70 ∷ r

-- so many rules of different names, and then r
abbrev rules : ℕ → List W → List W
rules zero r = r
rules (suc n) r = name 0 (n ∷ []) ∷ sign at_mark ∷ p_name 4 ∷ sign simplify ∷ sign true_word ∷ sign dot ∷ rules n r

-- read, with no fault
abbrev Read : {X : Type 0} → Out X → Type 0
Read (ok x r) = r ≡ []
Read (barred r) = ⊥
Read (flawed n w r) = ⊥

-- fault n lies where the words r are left behind its word
abbrev Fault : {X : Type 0} → ℕ → List W → Out X → Type 0
Fault n r (ok x t) = ⊥
Fault n r (barred t) = ⊥
Fault n r (flawed m w t) = (m ≡ n) × (t ≡ r)

pub record Examples : Type 0 where
  -- r @ p(X) \ q(X,#3) <=> X < 5 | 20 : p(X + 1), X < 7 ; 0 : true.
  pub accepted :
      book (r_name 0 ∷ sign at_mark ∷ p_name 4 ∷ of_X (sign backslash ∷ q_name 11 ∷ sign open_mark ∷ var XName ∷ sign comma ∷ sign hash ∷ num 3 ∷ sign close_mark ∷ sign simplify ∷ var XName ∷ sign less ∷ num 5 ∷ sign bar ∷ num 20 ∷ sign colon ∷ p_name 37 ∷ sign open_mark ∷ var XName ∷ sign plus ∷ num 1 ∷ sign close_mark ∷ sign comma ∷ var XName ∷ sign less ∷ num 7 ∷ sign semicolon ∷ num 0 ∷ sign colon ∷ sign true_word ∷ sign dot ∷ []))
      ≡ ok (rule (named 0 (114 ∷ [])) (last (applied 4 (112 ∷ []) (last (variable XName))))
      (simpagating (last (applied 11 (113 ∷ []) (more (variable XName) (last (cell 3))))) (guarded (last (compared (variable XName) is_less (fixed (positive 5))))))
      (more (weighted 20 (items (more (added (applied 37 (112 ∷ []) (last (valued (summed XName (raised 1)))))) (last (told (compared (variable XName) tells_less (fixed (positive 7))))))))
      (last (weighted 0 nil))) ∷ []) []
  -- r @ p,q \ p,q <=> true. A fourth head is one too many, also behind `\`
  pub fourth_head :
      book (r_name 0 ∷ sign at_mark ∷ p_name 4 ∷ sign comma ∷ q_name 6 ∷ sign backslash ∷ p_name 10 ∷ sign comma ∷ q_name 12 ∷ sign simplify ∷ sign true_word ∷ sign dot ∷ [])
      ≡ flawed 5 (q_name 12) (sign simplify ∷ sign true_word ∷ sign dot ∷ [])
  -- r @ p,q,p \ q <=> true.
  pub fourth-behind-three :
      book (r_name 0 ∷ sign at_mark ∷ p_name 4 ∷ sign comma ∷ q_name 6 ∷ sign comma ∷ p_name 8 ∷ sign backslash ∷ q_name 12 ∷ sign simplify ∷ sign true_word ∷ sign dot ∷ [])
      ≡ flawed 5 (q_name 12) (sign simplify ∷ sign true_word ∷ sign dot ∷ [])
  -- r @ p <=> . Here no body starts with `.`
  pub no_body : book (r_name 0 ∷ sign at_mark ∷ p_name 4 ∷ sign simplify ∷ sign dot ∷ []) ≡ barred (sign dot ∷ [])
  -- r @ p
  pub too_short : book (r_name 0 ∷ sign at_mark ∷ p_name 4 ∷ []) ≡ barred []
  -- r @ p(X) ==> X \= 3. The relation `\=` is a guard's alone
  pub no-different :
      book (r_name 0 ∷ sign at_mark ∷ p_name 4 ∷ of_X (sign propagate ∷ var XName ∷ sign different ∷ num 3 ∷ sign dot ∷ []))
      ≡ barred (sign different ∷ num 3 ∷ sign dot ∷ [])
  -- r @ p <=> q(X).
  pub loose-variable :
      book (r_name 0 ∷ sign at_mark ∷ p_name 4 ∷ sign simplify ∷ q_name 10 ∷ of_X (sign dot ∷ [])) ≡ flawed 6 (var XName) (sign close_mark ∷ sign dot ∷ [])
  -- r @ p <=> true. r @ q <=> true.
  pub name-again :
      book (r_name 0 ∷ sign at_mark ∷ p_name 4 ∷ sign simplify ∷ sign true_word ∷ sign dot ∷ r_name 16 ∷ sign at_mark ∷ q_name 20 ∷ sign simplify ∷ sign true_word ∷ sign dot ∷ [])
      ≡ flawed 7 (r_name 16) (sign at_mark ∷ q_name 20 ∷ sign simplify ∷ sign true_word ∷ sign dot ∷ [])
  -- ?- p(#4,3), 1 < 2.
  pub accepted-goal :
      goal (sign ask ∷ p_name 3 ∷ sign open_mark ∷ sign hash ∷ num 4 ∷ sign comma ∷ num 3 ∷ sign close_mark ∷ sign comma ∷ num 1 ∷ sign less ∷ num 2 ∷ sign dot ∷ [])
      ≡ ok (items (more (added (applied 3 (112 ∷ []) (more (held 4) (last (valued (fixed (positive 3))))))) (last (told (compared (number (positive 1)) tells_less (fixed (positive 2))))))) []
  -- ?- p(X).
  pub variable_in_goal : goal (sign ask ∷ p_name 3 ∷ of_X (sign dot ∷ [])) ≡ flawed 8 (var XName) (sign close_mark ∷ sign dot ∷ [])
  -- ?- p. q
  pub behind_goal : goal (sign ask ∷ p_name 3 ∷ sign dot ∷ q_name 6 ∷ []) ≡ barred (q_name 6 ∷ [])
  -- r @ p(X) <=> 2000 : true. A weight is at most 1,000
  pub heavy :
      book (r_name 0 ∷ sign at_mark ∷ p_name 4 ∷ of_X (sign simplify ∷ num 2000 ∷ sign colon ∷ sign true_word ∷ sign dot ∷ []))
      ≡ flawed 5 (weight 2000) (sign colon ∷ sign true_word ∷ sign dot ∷ [])
  -- r @ p(X) <=> 2000 < X. A number that is no weight may be more
  pub large-number :
      book (r_name 0 ∷ sign at_mark ∷ p_name 4 ∷ of_X (sign simplify ∷ num 2000 ∷ sign less ∷ var XName ∷ sign dot ∷ []))
      ≡ ok (rule (named 0 (114 ∷ [])) (last (applied 4 (112 ∷ []) (last (variable XName)))) (simplifying none) (last (plainly (items (last (told (compared (number (positive 2000)) tells_less (summed XName alone))))))) ∷ []) []
  -- r @ p(2000 : .. A number that begins no alternative is no weight
  pub no-weight-there :
      book (r_name 0 ∷ sign at_mark ∷ p_name 4 ∷ sign open_mark ∷ num 2000 ∷ sign colon ∷ [])
      ≡ barred (sign colon ∷ [])
  -- r @ p <=> 5 : q | true. A `|` tells that a guard is there, so that 5 is no weight
  pub no-weight-in-guard :
      book (r_name 0 ∷ sign at_mark ∷ p_name 4 ∷ sign simplify ∷ num 5 ∷ sign colon ∷ q_name 14 ∷ sign bar ∷ sign true_word ∷ sign dot ∷ [])
      ≡ barred (sign colon ∷ q_name 14 ∷ sign bar ∷ sign true_word ∷ sign dot ∷ [])
  -- r @ p <=> 1 : true. q @ p <=> 1 < 2 | true. The `|` of a rule is no other rule's
  pub guard-of-the-next :
      Read (book (r_name 0 ∷ sign at_mark ∷ p_name 4 ∷ sign simplify ∷ num 1 ∷ sign colon ∷ sign true_word ∷ sign dot ∷ q_name 20 ∷ sign at_mark ∷ p_name 24 ∷ sign simplify ∷ num 1 ∷ sign less ∷ num 2 ∷ sign bar ∷ sign true_word ∷ sign dot ∷ []))
  -- true @ p <=> fail. fail @ p <=> true. trues @ p <=> true. Names that differ in a byte or in length are different
  pub names_apart :
      Read (book (sign true_word ∷ sign at_mark ∷ p_name 7 ∷ sign simplify ∷ sign fail_word ∷ sign dot ∷ sign fail_word ∷ sign at_mark ∷ p_name 26 ∷ sign simplify ∷ sign true_word ∷ sign dot ∷ name 37 (116 ∷ 114 ∷ 117 ∷ 101 ∷ 115 ∷ []) ∷ sign at_mark ∷ p_name 45 ∷ sign simplify ∷ sign true_word ∷ sign dot ∷ []))
  -- fail @ p <=> true. fail ..
  pub fail_again : Fault 7 [] (book (sign fail_word ∷ sign at_mark ∷ p_name 7 ∷ sign simplify ∷ sign true_word ∷ sign dot ∷ sign fail_word ∷ []))
  -- r @ p,q,p,q
  pub four-heads :
      Fault 5 [] (book (r_name 0 ∷ sign at_mark ∷ p_name 4 ∷ sign comma ∷ q_name 6 ∷ sign comma ∷ p_name 8 ∷ sign comma ∷ q_name 10 ∷ []))
  -- r @ p(1,2,3) <=> true. and r @ p(1,2,3,-
  pub three-arguments :
      Read (book (r_name 0 ∷ sign at_mark ∷ p_name 4 ∷ sign open_mark ∷ num 1 ∷ sign comma ∷ num 2 ∷ sign comma ∷ num 3 ∷ sign close_mark ∷ sign simplify ∷ sign true_word ∷ sign dot ∷ []))
  pub fourth-argument :
      Fault 5 [] (book (r_name 0 ∷ sign at_mark ∷ p_name 4 ∷ sign open_mark ∷ times 3 (num 1 ∷ sign comma ∷ []) (sign minus ∷ [])))
  -- r @ p(X) <=> p(#31). and r @ p(X) <=> p(#32
  pub last_cell : Read (book (simplifying_X (p_name 12 ∷ sign open_mark ∷ sign hash ∷ num 31 ∷ sign close_mark ∷ sign dot ∷ [])))
  pub cell_beyond : Fault 5 [] (book (simplifying_X (p_name 12 ∷ sign open_mark ∷ sign hash ∷ num 32 ∷ [])))
  -- r @ p(X) <=> 1000 : true. and r @ p(X) <=> 1001 :
  pub heaviest : Read (book (simplifying_X (num 1000 ∷ sign colon ∷ sign true_word ∷ sign dot ∷ [])))
  pub heavier : Fault 5 (sign colon ∷ []) (book (simplifying_X (num 1001 ∷ sign colon ∷ [])))
  -- six variables, all of them told again behind the arrow; a seventh in a head; a seventh behind the arrow
  pub six :
      Read (book (six_variables (sign close_mark ∷ sign simplify ∷ letter 65 ∷ sign less ∷ letter 66 ∷ sign comma ∷ letter 67 ∷ sign less ∷ letter 68 ∷ sign comma ∷ letter 69 ∷ sign less ∷ letter 70 ∷ sign dot ∷ [])))
  pub seventh : Fault 5 [] (book (six_variables (sign comma ∷ letter 71 ∷ [])))
  pub seventh_behind : Fault 5 [] (book (six_variables (sign close_mark ∷ sign simplify ∷ p_name 30 ∷ sign open_mark ∷ letter 71 ∷ [])))
  -- the first of two different variables in no head has fault 6
  pub loose_first : Fault 6 (sign less ∷ letter 71 ∷ []) (book (r_name 0 ∷ sign at_mark ∷ p_name 4 ∷ sign propagate ∷ letter 70 ∷ sign less ∷ letter 71 ∷ []))
  -- four comparisons in a guard; a fifth
  pub four_in_guard : Read (book (simplifying_X (times 3 (num 1 ∷ sign different ∷ num 2 ∷ sign comma ∷ []) (num 1 ∷ sign less ∷ num 2 ∷ sign bar ∷ sign true_word ∷ sign dot ∷ []))))
  pub fifth_in_guard : Fault 5 (sign bar ∷ []) (book (simplifying_X (times 4 (num 1 ∷ sign less ∷ num 2 ∷ sign comma ∷ []) (num 1 ∷ sign bar ∷ []))))
  -- eight items; a ninth
  pub eight_items : Read (book (simplifying_X (times 7 (p_name 12 ∷ sign comma ∷ []) (p_name 26 ∷ sign dot ∷ []))))
  pub ninth_item : Fault 5 [] (book (simplifying_X (times 8 (p_name 12 ∷ sign comma ∷ []) (sign fail_word ∷ []))))
  -- eight alternatives; a ninth
  pub eight_alternatives : Read (book (simplifying_X (times 7 (p_name 12 ∷ sign semicolon ∷ []) (p_name 26 ∷ sign dot ∷ []))))
  pub ninth_alternative : Fault 5 [] (book (simplifying_X (times 8 (p_name 12 ∷ sign semicolon ∷ []) (sign true_word ∷ []))))
  -- sixteen items in a goal; a seventeenth
  pub sixteen_items : Read (goal (sign ask ∷ times 15 (p_name 3 ∷ sign comma ∷ []) (p_name 33 ∷ sign dot ∷ [])))
  pub seventeenth_item : Fault 5 [] (goal (sign ask ∷ times 16 (p_name 3 ∷ sign comma ∷ []) (p_name 35 ∷ [])))
  -- 32 rules; a 33rd, also if its name was used before
  pub thirty_two_rules : Read (book (rules 32 []))
  pub thirty_third_rule : Fault 5 [] (book (rules 32 (name 0 (0 ∷ []) ∷ [])))
