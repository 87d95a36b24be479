use Rattle.std.proofs.Common.{◌≡◌, ◌-◌, map, length, vec_items}
use Rattle.parse.specs.Raw.{placed}
use Rattle.lexed.proofs.Turns.{Reading}
use Rattle.lexed.proofs.raw.collect.Given as goal

abbrev pub invariant-loop-next : goal.invariant-loop-next
invariant-loop-next l = (l.words.text.now ≡ l.text) × Reading l.text l.words.at (map placed (vec_items l.list))

-- each word takes a byte at least
abbrev pub decreases-loop-next : goal.decreases-loop-next
decreases-loop-next l = length l.words.text.now - l.words.at
