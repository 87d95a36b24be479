-- A book's tables as the program that they hold. Assumes nothing.
use Rattle.std.specs.Prelude.{map, vec_items}
use Rattle.parse.specs.Fews.{few_items}
use Rattle.parse.specs.Model.{asking}
use Rattle.parse.specs.declared.tree.Alternative.{Alternative}
use Rattle.steps.specs.Program as model
use Rattle.rulebook.specs.declared.rows.Span.{Span}
use Rattle.rulebook.specs.declared.rows.Rule.{Rule}
use Rattle.rulebook.specs.declared.settled.Book.{Book}
use Rattle.rulebook.specs.Rows.{slice, pattern, item}

-- an alternative whose items lie in a book
abbrev pub alternative_in : Book → Alternative Span → model.Alternative
alternative_in b a = record { weight = a.weight.value; items = map item (slice (vec_items b.items) a.items) }

-- a rule whose guard and alternatives lie in a book
abbrev pub rule_in : Book → Rule → model.Rule
rule_in b r = record {
  heads = map pattern (few_items r.heads);
  kept = r.kept;
  guard = map asking (slice (vec_items b.guards) r.guard);
  body = map (alternative_in b) (slice (vec_items b.alternatives) r.body);
}

-- the program that a book is
abbrev pub program : Book → model.Program
program b = map (λ n. rule_in b n.rule) (vec_items b.rules)
