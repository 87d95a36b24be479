-- The numbers and terms of a book as plain values. Assumes nothing.
use Rattle.std.specs.Prelude.{ℕ, List, map, ℤ, vec_items, Vec}
use Rattle.std.specs.declared.alloc.Global.{Global}
use Rattle.words.specs.Names.{name_bytes}
use Rattle.cells.specs.declared.relations.Relation.{Relation}
use Rattle.cells.specs.declared.relations.Telling.{Telling}
use Rattle.parse.specs.Fews.{few_items}
use Rattle.parse.specs.declared.tree.Comparison.{Comparison}
use Rattle.parse.specs.declared.tree.Mention.{Mention as CodeMention}
use Rattle.parse.specs.declared.tree.Item.{Item as CodeItem}
use Rattle.parse.specs.declared.tree.Item.TheVariants as code-item
use Rattle.parse.specs.declared.tree.Alternative.{Alternative as CodeAlternative}
use Rattle.words.specs.declared.count.Count.{Count}
use Rattle.parse.specs.declared.number.Cell.{Cell}
use Rattle.parse.specs.declared.number.Variable.{Variable}
use Rattle.parse.specs.declared.number.Weight.{Weight}
use Rattle.parse.specs.declared.tree.Term.{Term as Code}
use Rattle.parse.specs.declared.tree.Term.TheVariants as code

abbrev pub count : Count → ℕ
count n = n.value

abbrev pub cell_index : Cell → ℕ
cell_index k = k.index

abbrev pub variable_index : Variable → ℕ
variable_index v = v.index

abbrev pub weight_value : Weight → ℕ
weight_value w = w.value

-- an argument of a fact, or a side of a comparison
pub data Term : Type 0 where
  number : ℤ → Term
  cell : ℕ → Term
  variable : ℕ → Term
  sum : ℕ → ℤ → Term

abbrev pub term : Code → Term
term (code.Number n) = number n.value
term (code.Cell k) = cell k.index
term (code.Variable v) = variable v.index
term (code.Sum v n) = sum v.index n.value

-- a comparison of a guard
pub record Asking : Type 0 where
  pub left : Term
  pub relation : Relation
  pub right : Term

-- a comparison of a body
pub record Tell : Type 0 where
  pub left : Term
  pub telling : Telling
  pub right : Term

-- a fact by its name, which stands at a place of the text
pub record Mention : Type 0 where
  pub place : ℕ
  pub name : List ℕ
  pub arguments : List Term

pub data Item : Type 0 where
  add : Mention → Item
  tell : Tell → Item
  fail : Item

pub record Alternative : Type 0 where
  pub weight : ℕ
  pub items : List Item

abbrev pub asking : Comparison Relation → Asking
asking c = record { left = term c.left; relation = c.relation; right = term c.right }

abbrev pub telling : Comparison Telling → Tell
telling c = record { left = term c.left; telling = c.relation; right = term c.right }

abbrev pub mention : CodeMention → Mention
mention f = record { place = f.place; name = name_bytes f.name; arguments = map term (few_items f.arguments) }

abbrev pub item : CodeItem CodeMention → Item
item (code-item.Add f) = add (mention f)
item (code-item.Tell c) = tell (telling c)
item code-item.Fail = fail

abbrev pub alternative : CodeAlternative (Vec (CodeItem CodeMention) Global) → Alternative
alternative a = record { weight = a.weight.value; items = map item (vec_items a.items) }
