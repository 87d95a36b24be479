-- The table of occurrences, and that it lists those of the rules. Assumes nothing.
use Rattle.std.specs.Prelude.{ℕ, suc, ◌≤◌, Bool, true, false, ◌&&◌, List, [], ◌∷◌, map, length, Some, None, Option, ◌==◌, nat_lt}
use Rattle.std.specs.Option.{option_map}
use Rattle.parse.specs.Fews.{few_items}
use Rattle.steps.specs.Program as model
use Rattle.rulebook.specs.declared.rows.Span.{Span}
use Rattle.rulebook.specs.declared.rows.Named.{Named}
use Rattle.rulebook.specs.declared.rows.Occurrence.{Occurrence}
use Rattle.rulebook.specs.Rows.{slice, pattern}

abbrev pub occurrence : Occurrence → model.Occurrence
occurrence o = record { rule = o.rule; head = o.head }

abbrev pub occurrence_if : Option Occurrence → Option model.Occurrence
occurrence_if o = option_map occurrence o

-- a rule by its heads alone
abbrev pub headed : Named → model.Rule
headed n = record { heads = map pattern (few_items n.rule.heads); kept = 0; guard = []; body = [] }

-- the occurrences of predicate p among the heads of rules
abbrev pub occurring : List Named → ℕ → List model.Occurrence
occurring rules p = model.occurrences (map headed rules) p

abbrev pub same_occurrences : List model.Occurrence → List model.Occurrence → Bool
same_occurrences [] [] = true
same_occurrences [] (y ∷ ys) = false
same_occurrences (x ∷ xs) [] = false
same_occurrences (x ∷ xs) (y ∷ ys) = x.rule == y.rule && (x.head == y.head && same_occurrences xs ys)

-- the places list, one after another from predicate p on, the occurrences of the predicates; of each there are fewer than 255
abbrev pub listed_from : List Named → List Occurrence → ℕ → List Span → Bool
listed_from rules table p [] = true
listed_from rules table p (s ∷ ss) = (same_occurrences (map occurrence (slice table s)) (occurring rules p) && nat_lt (length (slice table s)) 255) && listed_from rules table (suc p) ss

-- a place for each of 32 predicates lists its occurrences
abbrev pub all_listed : List Named → List Span → List Occurrence → Bool
all_listed rules places table = length places == 32 && listed_from rules table 0 places

-- an occurrence that is found has a number below 255
abbrev pub Reached : ℕ → Option Occurrence → Type 0
Reached n None = Unit {0}
Reached n (Some o) = n ≤ 254
