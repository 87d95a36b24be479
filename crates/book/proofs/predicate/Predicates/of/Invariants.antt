use Rattle.std.proofs.Common.{◌≤◌, map, vec_items, vec_len}
use Rattle.parse.specs.Model.{mention}
use Rattle.book.specs.Predicates.{coded}
use Rattle.book.proofs.Numbering.{ListingOn}
use Rattle.book.proofs.predicate.Predicates.of.Given as goal

abbrev pub invariant-loop-fact : goal.invariant-loop-fact
invariant-loop-fact l = ListingOn mention l.facts l.fact-index (map coded (vec_items l.all.list)) × (vec_len l.all.list ≤ 32)
