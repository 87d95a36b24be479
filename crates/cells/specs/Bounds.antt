-- Bounds: the members are all numbers from a low to a high one, within a thousand million either way.
-- The content is (low + 1000000000) * 2 ^ 32 + high + 1000000000, and 2 ^ 32 is 4294967296.
use Rattle.std.specs.Prelude.{ℕ, ◌+◌, ◌-◌, ◌*◌, ◌/◌, ◌%◌, Bool, true, cond, ◌&&◌, ℤ, pos, ◌+ℤ◌, ◌-ℤ◌, Some, None, Option, int_le, nat_le, unsigned_abs}
use Rattle.cells.specs.declared.relations.Relation.{Relation}
use Rattle.cells.specs.declared.relations.Telling.{Telling}
use Rattle.cells.specs.declared.spans.Span.{Span}
use Rattle.cells.specs.Laws.{between}
use Rattle.cells.specs.Spans.{raised, lowered, all_satisfy}

-- the low end that a number holds
abbrev pub low_of : ℕ → ℤ
low_of c = pos (c / 4294967296) -ℤ pos 1000000000

-- the high end that it holds
abbrev pub high_of : ℕ → ℤ
high_of c = pos (c % 4294967296) -ℤ pos 1000000000

-- the number that holds two ends
abbrev pub packed : ℤ → ℤ → ℕ
packed low high = unsigned_abs (low +ℤ pos 1000000000) * 4294967296 + unsigned_abs (high +ℤ pos 1000000000)

-- a content: its ends are in order, and the high one is not beyond a thousand million
abbrev pub is_bounds : ℕ → Bool
is_bounds c = nat_le (c / 4294967296) (c % 4294967296) && nat_le (c % 4294967296) 2000000000

-- a member of a content: a number from its low to its high end
abbrev pub bounds_member : ℕ → ℤ → Bool
bounds_member c v = is_bounds c && between (low_of c) (high_of c) v

-- the ends of a content; none for a number that is no content
abbrev pub bounds_ends : ℕ → Option Span
bounds_ends c = cond (is_bounds c) (Some (record { low = low_of c; high = high_of c })) None

-- the content from a low to a high end, if these are in order
abbrev pub bounds_from : ℤ → ℤ → Option ℕ
bounds_from low high = cond (int_le low high) (Some (packed low high)) None

-- what narrowing answers
abbrev pub bounds_narrowed : ℕ → Telling → ℤ → Option ℕ
bounds_narrowed c t n = cond (is_bounds c) (bounds_from (raised (low_of c) t n) (lowered (high_of c) t n)) None

-- what asking answers; yes for a number that is no content
abbrev pub bounds_asked : ℕ → Relation → ℤ → Bool
bounds_asked c r n = cond (is_bounds c) (all_satisfy (low_of c) (high_of c) (between (low_of c) (high_of c) n) r n) true

-- the least member is the low end
abbrev pub bounds_least : ℕ → Option ℤ
bounds_least c = cond (is_bounds c) (Some (low_of c)) None

-- the greatest member is the high end
abbrev pub bounds_greatest : ℕ → Option ℤ
bounds_greatest c = cond (is_bounds c) (Some (high_of c)) None

-- how many numbers lie from the low to the high end
abbrev pub bounds_counted : ℕ → ℕ
bounds_counted c = cond (is_bounds c) (c % 4294967296 + 1 - c / 4294967296) 0
