-- Texts and what they are read as. Assumes nothing.
use Rattle.std.specs.Prelude.{◌≡◌, ℕ, List, [], ◌∷◌, pos, codes}
use Rattle.cells.specs.declared.relations.Relation.TheVariants as relation
use Rattle.parse.specs.Model.{Term, number, variable, Mention, Item, add, fail, Alternative}
use Rattle.book.specs.declared.faults.Layer.{Layer}
use Rattle.book.specs.declared.faults.Layer.TheVariants as layer
use Rattle.book.specs.Reading.{Book, accepted, refused, refusal, book_of, goal_of}

-- a fact at a place of the text
abbrev pub fact : ℕ → List ℕ → List Term → Mention
fact p n as' = record { place = p; name = n; arguments = as' }

abbrev pub plainly : List Item → Alternative
plainly is = record { weight = 0; items = is }

-- the book of a drive: an older position gives way, a ring takes one of two keys, and the first key is barred at offset 5
abbrev pub drive : List ℕ
drive = codes "new @ at(S,X) \\ at(T,Y) <=> T < S | true.\npick @ ring(R) <=> key(R,1) ; key(R,2).\nbar @ key(R,1), at(S,5) <=> fail.\n"

abbrev pub drive_book : Book
drive_book = record {
  predicates = (codes "at", 2) ∷ (codes "ring", 1) ∷ (codes "key", 2) ∷ [];
  rules =
      record { label = codes "new"; variables = codes "S" ∷ codes "X" ∷ codes "T" ∷ codes "Y" ∷ []; kept = fact 6 (codes "at") (variable 0 ∷ variable 1 ∷ []) ∷ []; removed = fact 16 (codes "at") (variable 2 ∷ variable 3 ∷ []) ∷ []; guard = record { left = variable 2; relation = relation.Less; right = variable 0 } ∷ []; body = plainly [] ∷ [] }
      ∷ record { label = codes "pick"; variables = codes "R" ∷ []; kept = []; removed = fact 49 (codes "ring") (variable 0 ∷ []) ∷ []; guard = []; body = plainly (add (fact 61 (codes "key") (variable 0 ∷ number (pos 1) ∷ [])) ∷ []) ∷ plainly (add (fact 72 (codes "key") (variable 0 ∷ number (pos 2) ∷ [])) ∷ []) ∷ [] }
      ∷ record { label = codes "bar"; variables = codes "R" ∷ codes "S" ∷ []; kept = []; removed = fact 88 (codes "key") (variable 0 ∷ number (pos 1) ∷ []) ∷ fact 98 (codes "at") (variable 1 ∷ number (pos 5) ∷ []) ∷ []; guard = []; body = plainly (fail ∷ []) ∷ [] }
      ∷ [];
}

abbrev pub drive_goal : List Item
drive_goal =
    add (fact 3 (codes "at") (number (pos 2) ∷ number (pos 5) ∷ [])) ∷ add (fact 12 (codes "at") (number (pos 1) ∷ number (pos 9) ∷ [])) ∷ add (fact 21 (codes "ring") (number (pos 7) ∷ [])) ∷ []

-- the text is refused as a book, by number, place and layer
abbrev pub TurnedDown : List ℕ → ℕ → ℕ → Layer → Type 0
TurnedDown text n p l = book_of text ≡ refused (refusal n p l)

abbrev pub GoalTurnedDown : List ℕ → ℕ → ℕ → Layer → Type 0
GoalTurnedDown text n p l = goal_of drive_book.predicates text ≡ refused (refusal n p l)

pub record Examples : Type 0 where
  pub drives : book_of drive ≡ accepted drive_book
  pub asks : goal_of drive_book.predicates (codes "?- at(2,5), at(1,9), ring(7).") ≡ accepted drive_goal
  pub nothing : book_of [] ≡ accepted (record { predicates = []; rules = [] })
  pub stray : TurnedDown (codes "p @ a ==> ?b.") 2 10 layer.Letters
  pub long_name : TurnedDown (codes "p @ abcdefghijklm ==> b.") 3 4 layer.Letters
  pub large : TurnedDown (codes "p @ a(1000000001) ==> b.") 3 6 layer.Letters
  pub no_argument : TurnedDown (codes "p @ a() ==> b.") 4 6 layer.Grammar
  pub cut_short : TurnedDown (codes "p @ a ==> b ") 4 12 layer.Grammar
  pub told_different : TurnedDown (codes "p @ a(X) ==> X \\= 3.") 4 15 layer.Grammar
  pub fourth_head : TurnedDown (codes "p @ a, b, c \\ d <=> e.") 5 14 layer.Grammar
  pub heavy : TurnedDown (codes "p @ a ==> 1001 : b.") 5 10 layer.Grammar
  pub unbound : TurnedDown (codes "p @ a ==> X.") 6 10 layer.Meaning
  pub reused : TurnedDown (codes "p @ a ==> b. p @ b ==> c.") 7 13 layer.Meaning
  pub variable_asked : GoalTurnedDown (codes "?- ring(R).") 8 8 layer.Meaning
  pub unknown : GoalTurnedDown (codes "?- at(2,5), lock.") 9 12 layer.Meaning
  pub empty_goal : GoalTurnedDown [] 4 0 layer.Grammar
