use Rattle.std.proofs.Common.{◌≡◌, ◌+◌, ◌*◌, ◌^◌, ◌≤◌, take}
use Rattle.words.specs.Lex.{value}
use Rattle.words.proofs.reader.steps.number_of.Given as goal

abbrev pub invariant-loop-d : goal.invariant-loop-d
invariant-loop-d l = (l.n ≡ value (take l.d-index l.digits)) × (l.n + 23 ≤ 23 * 10 ^ l.d-index)
