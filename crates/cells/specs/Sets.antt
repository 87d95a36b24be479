-- Sets: the members are among 0 to 63, and bit v of the content is set exactly if v is a member.
use Rattle.std.specs.Prelude.{ℕ, ◌+◌, ◌-◌, ◌/◌, ◌%◌, ◌^◌, Bool, true, cond, ◌&&◌, ℤ, pos, Some, None, Option, ◌==◌, bit_and, int_le, nat_lt, unsigned_abs}
use Rattle.std.specs.Int.Count.{ones_in, count_leading_zeros, count_trailing_zeros}
use Rattle.cells.specs.declared.relations.Relation.{Relation}
use Rattle.cells.specs.declared.relations.Telling.{Telling}
use Rattle.cells.specs.declared.spans.Span.{Span}
use Rattle.cells.specs.Laws.{between}
use Rattle.cells.specs.Spans.{raised, lowered, all_satisfy}

-- whether bit k of c is set
abbrev pub bit : ℕ → ℕ → Bool
bit c k = c / 2 ^ k % 2 == 1

-- a content: a number of 64 bits, not all of them 0
abbrev pub is_set : ℕ → Bool
is_set c = nat_lt 0 c && nat_lt c (2 ^ 64)

-- a member of a content: a number from 0 to 63 whose bit is set
abbrev pub set_member : ℕ → ℤ → Bool
set_member c v = is_set c && (between (pos 0) (pos 63) v && bit c (unsigned_abs v))

-- the number whose bits from low to high are set
abbrev pub window : ℕ → ℕ → ℕ
window low high = (2 ^ (high + 1) - 1) - (2 ^ low - 1)

-- a number, if it is not 0
abbrev pub some_bits : ℕ → Option ℕ
some_bits c = cond (nat_lt 0 c) (Some c) None

-- the members of c from a low to a high end, if there are any
abbrev pub set_within : ℕ → ℤ → ℤ → Option ℕ
set_within c low high = cond (int_le low high) (some_bits (bit_and c (window (unsigned_abs low) (unsigned_abs high)))) None

-- what narrowing answers
abbrev pub set_narrowed : ℕ → Telling → ℤ → Option ℕ
set_narrowed c t n = cond (is_set c) (set_within c (raised (pos 0) t n) (lowered (pos 63) t n)) None

-- the place of the lowest bit that is set: the zeros below it
abbrev pub lowest_bit : ℕ → ℕ
lowest_bit c = count_trailing_zeros 64 c

-- the place of the highest bit that is set, by the zeros above it
abbrev pub highest_bit : ℕ → ℕ
highest_bit c = 63 - count_leading_zeros 64 c

-- the least and the greatest member of a content; none for a number that is no content
abbrev pub set_ends : ℕ → Option Span
set_ends c = cond (is_set c) (Some (record { low = pos (lowest_bit c); high = pos (highest_bit c) })) None

-- what asking answers; yes for a number that is no content
abbrev pub set_asked : ℕ → Relation → ℤ → Bool
set_asked c r n = cond (is_set c) (all_satisfy (pos (lowest_bit c)) (pos (highest_bit c)) (set_member c n) r n) true

-- the least member is the lowest bit
abbrev pub set_least : ℕ → Option ℤ
set_least c = cond (is_set c) (Some (pos (lowest_bit c))) None

-- the greatest member is the highest bit
abbrev pub set_greatest : ℕ → Option ℤ
set_greatest c = cond (is_set c) (Some (pos (highest_bit c))) None

-- how many of the 64 bits are set
abbrev pub set_counted : ℕ → ℕ
set_counted c = cond (is_set c) (ones_in 64 c) 0
