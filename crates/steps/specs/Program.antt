-- A book as the machine runs it: facts by the number of their predicate, heads in the order written.
use Rattle.std.specs.Prelude.{ℕ, suc, pred, true, false, List, [], ◌∷◌, ◌++◌, map, length, ◌==◌, slice_index_or}
use Rattle.parse.specs.Model.{Term, Asking, Tell, Mention}
use Rattle.parse.specs.Model as model
use Rattle.parse.specs.Rules as written
use Rattle.book.specs.Predicates.{Predicate, number_of, predicate_of}
use Rattle.book.specs.Reading.{Book}

-- a fact as a rule or a goal writes it: the number of its predicate, and its arguments
pub record Pattern : Type 0 where
  pub predicate : ℕ
  pub arguments : List Term

-- an item of a body or a goal
pub data Item : Type 0 where
  add : Pattern → Item
  tell : Tell → Item
  fail : Item

-- an alternative of a body: its weight, and its items (none for `true`)
pub record Alternative : Type 0 where
  pub weight : ℕ
  pub items : List Item

-- a rule: its heads in the order written, of which the first so many are kept and the others removed; its guard; its alternatives
pub record Rule : Type 0 where
  pub heads : List Pattern
  pub kept : ℕ
  pub guard : List Asking
  pub body : List Alternative

-- the rules, downwards; a rule's number is its place here, from 0
abbrev pub Program : Type 0
Program = List Rule

-- a fact by the number of its predicate among those of the book
abbrev pub pattern : List Predicate → Mention → Pattern
pattern ps f = record { predicate = number_of ps (predicate_of f); arguments = f.arguments }

abbrev pub numbered_item : List Predicate → model.Item → Item
numbered_item ps (model.add f) = add (pattern ps f)
numbered_item ps (model.tell c) = tell c
numbered_item ps model.fail = fail

-- the items of a goal
abbrev pub goal_items : List Predicate → List model.Item → List Item
goal_items ps is = map (numbered_item ps) is

abbrev pub numbered_alternative : List Predicate → model.Alternative → Alternative
numbered_alternative ps a = record { weight = a.weight; items = goal_items ps a.items }

abbrev pub numbered_rule : List Predicate → written.Rule → Rule
numbered_rule ps r = record {
  heads = map (pattern ps) (r.kept ++ r.removed);
  kept = length r.kept;
  guard = r.guard;
  body = map (numbered_alternative ps) r.body;
}

-- a book as it is run
abbrev pub program_of : Book → Program
program_of b = map (numbered_rule b.predicates) b.rules

-- the rule of a number
abbrev pub rule_at : Program → ℕ → Rule
rule_at P r = slice_index_or P r (record { heads = []; kept = 0; guard = []; body = [] })

-- the alternative of a number, counted from 1
abbrev pub alternative_at : Rule → ℕ → Alternative
alternative_at r i = slice_index_or r.body (pred i) (record { weight = 0; items = [] })

-- an occurrence of a predicate: the number of a rule, and the place of one of its heads, from 0 on the left
pub record Occurrence : Type 0 where
  pub rule : ℕ
  pub head : ℕ

-- the heads of rule r that have predicate p, from right to left; the first of the heads given stands at place h
abbrev pub occurrences_in : ℕ → ℕ → ℕ → List Pattern → List Occurrence
occurrences_in p r h [] = []
occurrences_in p r h (q ∷ qs) = elim (p == q.predicate) [ true ↦ occurrences_in p r (suc h) qs ++ (record { rule = r; head = h } ∷ []) | false ↦ occurrences_in p r (suc h) qs ]

-- the occurrences in rules from number r on: rules downwards
abbrev pub occurrences_from : ℕ → ℕ → List Rule → List Occurrence
occurrences_from p r [] = []
occurrences_from p r (x ∷ xs) = occurrences_in p r 0 x.heads ++ occurrences_from p (suc r) xs

-- the occurrences of a predicate; they are numbered from 1 in this order
abbrev pub occurrences : Program → ℕ → List Occurrence
occurrences P p = occurrences_from p 0 P
