-- The line in which a place of a text lies. Assumes nothing.
use Rattle.std.specs.Prelude.{ℕ, ◌+◌, ◌-◌, Bool, cond, not, List, length, take, drop, Some, None, Option, ◌==◌, nat_le}
use Rattle.std.specs.List.{prefix_len, suffix_len}
use Rattle.account.specs.declared.lines.Spot.{Spot}

-- a byte that ends no line
abbrev pub inline : ℕ → Bool
inline b = not (b == 10)

-- where the line of a place begins, and where it ends, before its line feed
abbrev pub start_of_line : List ℕ → ℕ → ℕ
start_of_line text place = place - suffix_len inline (take place text)

abbrev pub line_stop : List ℕ → ℕ → ℕ
line_stop text place = place + prefix_len inline (drop place text)

-- the bytes of that line, and how many of them stand before the place
abbrev pub spot_at : List ℕ → ℕ → Option (List ℕ × ℕ)
spot_at text place =
    cond (nat_le place (length text))
    (Some (take (line_stop text place - start_of_line text place) (drop (start_of_line text place) text), place - start_of_line text place))
    None

abbrev pub seen_spot : Option Spot → Option (List ℕ × ℕ)
seen_spot None = None
seen_spot (Some s) = Some (s.line.now, s.column)
