-- The rows of a book's tables as plain values. Assumes nothing.
use Rattle.std.specs.Prelude.{List, map, take, drop}
use Rattle.parse.specs.Fews.{few_items}
use Rattle.parse.specs.Model.{term, telling}
use Rattle.parse.specs.declared.tree.Term.{Term}
use Rattle.parse.specs.declared.tree.Item.{Item}
use Rattle.parse.specs.declared.tree.Item.TheVariants as code-item
use Rattle.facts.specs.declared.fact.Fact.{Fact}
use Rattle.steps.specs.Program as model
use Rattle.rulebook.specs.declared.rows.Span.{Span}

-- the rows of a span, as far as the table has them
abbrev pub slice : {X : Type 0} → List X → Span → List X
slice xs s = take s.count (drop s.from xs)

abbrev pub pattern : Fact Term → model.Pattern
pattern p = record { predicate = p.predicate.index; arguments = map term (few_items p.arguments) }

abbrev pub item : Item (Fact Term) → model.Item
item (code-item.Add p) = model.add (pattern p)
item (code-item.Tell c) = model.tell (telling c)
item code-item.Fail = model.fail
