use Rattle.std.proofs.Common.{◌≡◌, ◌-◌, map, length, vec_items}
use Rattle.syntax.specs.Readers.{read_book}
use Rattle.parse.specs.Cursors.{rest}
use Rattle.parse.specs.Tokens.{words}
use Rattle.parse.specs.Rules.{labels, rule_view}
use Rattle.parse.proofs.Books.{Collects}
use Rattle.parse.proofs.whole.rules.Given as goal

abbrev pub invariant-loop-cursor : goal.invariant-loop-cursor
invariant-loop-cursor l = record {
  same : l.cursor.tokens ≡ l.initial.cursor.tokens;
  collects : Collects (read_book (words l.ts)) (length (vec_items l.list)) (labels (vec_items l.list)) (rest l.cursor) (map rule_view (vec_items l.list));
}

abbrev pub decreases-loop-cursor : goal.decreases-loop-cursor
decreases-loop-cursor l = 32 - length (vec_items l.list)
