-- What the readers of whole texts tell. Assumes nothing.
use Rattle.std.specs.Prelude.{◌≡◌, List, [], map, Ok, Err, vec_items, Result, Vec}
use Rattle.std.specs.declared.alloc.Global.{Global}
use Rattle.syntax.specs.Syntax.{W, Out, ok}
use Rattle.syntax.specs.Tree as tree
use Rattle.parse.specs.declared.flaw.Flaw.{Flaw}
use Rattle.parse.specs.declared.tree.Rule.{Rule}
use Rattle.parse.specs.declared.tree.Item.{Item}
use Rattle.parse.specs.declared.tree.Mention.{Mention}
use Rattle.parse.specs.Model.{item}
use Rattle.parse.specs.Flat.{content_of}
use Rattle.parse.specs.Flaws.{Faulted}
use Rattle.parse.specs.Rules.{rule_view, rule_model}

-- the rules read are those of the trees that the grammar's reader reads, and no word is left
abbrev pub BookTold : List W → Result (Vec Rule Global) Flaw → Out (List tree.Rule) → Type 0
BookTold ws (Ok v) o = (y : List tree.Rule) × (map rule_model y ≡ map rule_view (vec_items v)) × (o ≡ ok y [])
BookTold ws (Err f) o = Faulted ws f o

-- the same of a goal's items
abbrev pub GoalTold : List W → Result (Vec (Item Mention) Global) Flaw → Out tree.Content → Type 0
GoalTold ws (Ok v) o = (y : tree.Content) × (content_of [] y ≡ map item (vec_items v)) × (o ≡ ok y [])
GoalTold ws (Err f) o = Faulted ws f o
