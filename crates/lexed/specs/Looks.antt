-- The two rules of look-ahead, by what is known of the words behind a word. Assumes nothing.
use Rattle.std.specs.Prelude.{ℕ, zero, suc, Bool, true, false, cond, not, ◌&&◌, ◌||◌, List, slice_index_or}
use Rattle.syntax.specs.Syntax.{W, name, var, num, weight, sign}
use Rattle.syntax.specs.Marks.{dot, semicolon, bar, simplify, propagate}
use Rattle.syntax.specs.Marking.{is_mark, marked_sign}

-- whether a `|` comes before any `.` from a word on, by whether it does behind the word
abbrev pub guard_ahead_from : W → Bool → Bool
guard_ahead_from w g = cond (is_mark bar w) true (cond (is_mark dot w) false g)

-- whether an alternative may begin behind a word, by whether a `|` comes before any `.` there
abbrev pub begins_after : W → Bool → Bool
begins_after w g = is_mark bar w || (is_mark semicolon w || ((is_mark simplify w || is_mark propagate w) && not g))

-- a word as marked, by whether it may begin an alternative, whether `:` is next, and whether a `|` comes before any `.`
abbrev pub marked_by : Bool → Bool → Bool → W → W
marked_by starts colon guard (name p s) = name p s
marked_by starts colon guard (var v) = var v
marked_by starts colon guard (num n) = cond (starts && colon) (weight n) (num n)
marked_by starts colon guard (weight n) = weight n
marked_by starts colon guard (sign m) = sign (marked_sign m guard)

-- whether an alternative may begin at an index, by whether a `|` comes before any `.` from there on
abbrev pub begins_at : List W → ℕ → Bool → Bool
begins_at ws zero g = false
begins_at ws (suc i) g = begins_after (slice_index_or ws i (num 0)) g
