use Rattle.std.proofs.Common.{◌≡◌, length, take, vec_items}
use Rattle.book.specs.Predicates.{coded}
use Rattle.account.proofs.Trying.{TriedFrom}
use Rattle.account.proofs.occurrences.add_heads.Given as goal

abbrev pub invariant-loop-head : goal.invariant-loop-head
invariant-loop-head l =
    let rest = l.head-iterator.iter.iter.rest.now in
    record {
      from_0 : l.head-iterator.iter.count ≡ 0;
      front : rest ≡ take (length rest) l.heads;
      tried : TriedFrom (coded l.predicate) l.rule l.heads (vec_items l.initial.out) (length rest) (vec_items l.out);
    }
