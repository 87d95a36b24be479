-- Numbers from a low end to a high end, narrowed and asked. Both kinds use these.
use Rattle.std.specs.Prelude.{Bool, cond, not, ◌&&◌, ℤ, pos, ◌+ℤ◌, ◌-ℤ◌, Some, None, Option, int_le}
use Rattle.std.specs.Int.{int_max, int_min}
use Rattle.cells.specs.declared.relations.Relation.{Relation}
use Rattle.cells.specs.declared.relations.Telling.{Telling}
use Rattle.cells.specs.declared.relations.Relation.TheVariants as relation
use Rattle.cells.specs.declared.relations.Telling.TheVariants as telling
use Rattle.cells.specs.declared.spans.Span.{Span}
use Rattle.cells.specs.Relations.{holds}
use Rattle.cells.specs.Laws.{between}

-- all numbers from low to high, if there are any
abbrev pub span : ℤ → ℤ → Option Span
span low high = cond (int_le low high) (Some (record { low = low; high = high })) None

-- whether n is one of them
abbrev pub within : Span → ℤ → Bool
within s n = between s.low s.high n

-- the low end of what is left of the numbers from low upwards
abbrev pub raised : ℤ → Telling → ℤ → ℤ
raised low telling.Less n = low
raised low telling.AtMost n = low
raised low telling.Equal n = int_max low n
raised low telling.AtLeast n = int_max low n
raised low telling.Greater n = int_max low (n +ℤ pos 1)

-- the high end of what is left of the numbers from high downwards
abbrev pub lowered : ℤ → Telling → ℤ → ℤ
lowered high telling.Less n = int_min high (n -ℤ pos 1)
lowered high telling.AtMost n = int_min high n
lowered high telling.Equal n = int_min high n
lowered high telling.AtLeast n = high
lowered high telling.Greater n = high

-- whether all members satisfy: the least and the greatest do, or for `different`, the number asked for is no member
abbrev pub all_satisfy : ℤ → ℤ → Bool → Relation → ℤ → Bool
all_satisfy low high has relation.Less n = holds relation.Less low n && holds relation.Less high n
all_satisfy low high has relation.AtMost n = holds relation.AtMost low n && holds relation.AtMost high n
all_satisfy low high has relation.Equal n = holds relation.Equal low n && holds relation.Equal high n
all_satisfy low high has relation.AtLeast n = holds relation.AtLeast low n && holds relation.AtLeast high n
all_satisfy low high has relation.Greater n = holds relation.Greater low n && holds relation.Greater high n
all_satisfy low high has relation.Different n = not has
