-- Facts, entries and standings as the code holds them, as plain values. Assumes nothing.
use Rattle.std.specs.Prelude.{map, Option}
use Rattle.std.specs.Option.{option_map}
use Rattle.tree.specs.Walks as tree
use Rattle.parse.specs.Fews.{few_items}
use Rattle.steps.specs.State as model
use Rattle.facts.specs.declared.value.Value.{Value}
use Rattle.facts.specs.declared.value.Value.TheVariants as code-value
use Rattle.facts.specs.declared.fact.Fact.{Fact}
use Rattle.facts.specs.declared.fact.Stored.{Stored}
use Rattle.facts.specs.declared.binding.Bindings.{Bindings}
use Rattle.facts.specs.declared.entry.Entry.{Entry}
use Rattle.facts.specs.declared.entry.Entry.TheVariants as code-entry
use Rattle.facts.specs.declared.entry.Firing.{Firing}
use Rattle.facts.specs.declared.ending.Cause.{Cause}
use Rattle.facts.specs.declared.ending.Cause.TheVariants as code-cause
use Rattle.facts.specs.declared.ending.End.{End}
use Rattle.facts.specs.declared.ending.End.TheVariants as code-end
use Rattle.facts.specs.declared.ending.Standing.{Standing}
use Rattle.facts.specs.declared.ending.Standing.TheVariants as code-standing

abbrev pub value : Value → model.Value
value (code-value.Number n) = model.number n.value
value (code-value.Cell k) = model.cell k.index

abbrev pub value_if : Option Value → Option model.Value
value_if o = option_map value o

abbrev pub fact : Fact Value → model.Fact
fact f = record { predicate = f.predicate.index; arguments = map value (few_items f.arguments) }

abbrev pub stored : Stored → model.Stored
stored f = record { identifier = f.identifier; fact = fact f.fact }

abbrev pub bindings : Bindings → model.Bindings
bindings b = map value_if b.values

abbrev pub entry : Entry → model.Entry
entry (code-entry.Add f) = model.to_add (fact f)
entry (code-entry.Tell v t n) = model.to_tell (value v) t n.value
entry code-entry.Fail = model.to_fail
entry (code-entry.Woken f) = model.woken (stored f)
entry (code-entry.Active f j) = model.active (stored f) j
entry (code-entry.Alternative r i b) = model.alternative r i (bindings b)
entry (code-entry.Choice r b) = model.choosing r (bindings b)

abbrev pub firing : Firing → model.Firing
firing f = record { rule = f.rule; identifiers = few_items f.identifiers }

abbrev pub cause : Cause → model.Cause
cause code-cause.CellForNumber = model.cell_for_number
cause code-cause.NumberTooLarge = model.number_too_large
cause code-cause.StoreFull = model.store_full
cause code-cause.StackFull = model.stack_full
cause code-cause.HistoryFull = model.history_full

abbrev pub ending : End → model.End
ending code-end.Answer = model.answer
ending code-end.Failed = model.failed
ending (code-end.Broken c) = model.broken (cause c)

abbrev pub standing : Standing → tree.Standing model.End
standing code-standing.Branch = tree.branch
standing (code-standing.Choice n) = tree.choice n
standing (code-standing.Leaf e) = tree.leaf (ending e)
