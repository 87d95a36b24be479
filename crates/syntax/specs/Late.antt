-- The faults that words may have by the grammar: 5 to 8 and no others. Assumes nothing.
use Rattle.std.specs.Prelude.{◌≤◌, List, [], ◌∷◌}
use Rattle.syntax.specs.Syntax.{Note, fine, flaw, Said}
use Rattle.syntax.specs.Tree.{Rule, Content}
use Rattle.syntax.specs.Grammar.{say_book, say_goal}

abbrev pub LateBy : Note → Type 0 → Type 0
LateBy fine T = T
LateBy (flaw n) T = (5 ≤ n) × (n ≤ 8) × T

-- each word has no fault, or one of 5 to 8
abbrev pub Late : Said → Type 0
Late [] = Unit {0}
Late (x ∷ s) = LateBy x.1 (Late s)

pub record FaultsAreLate : Type 0 where
  pub books : (b : List Rule) → Late (say_book b)
  pub goals : (c : Content) → Late (say_goal c)
