use Rattle.std.proofs.Common.{◌≡◌, ◌-◌, ◌<◌, ◌^◌, length, drop}
use Rattle.groups.specs.Groups.{value}
use Rattle.groups.proofs.numbers.value_of.Given as goal

abbrev pub invariant-loop-b : goal.invariant-loop-b
invariant-loop-b l = record {
  so_far : value (drop (length l.part - length l.yielded) l.part) ≡ l.n;
  fits : l.n < 2 ^ 64;
}
