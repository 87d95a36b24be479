-- Values as bytes. Assumes nothing.
use Rattle.std.specs.Prelude.{ℕ, List, ◌++◌, codes, decimal}
use Rattle.std.specs.Fmt.{signed_decimal}
use Rattle.steps.specs.State.{Value, number, cell}

-- a value: a number, or `#` and the cell's number
abbrev pub value_text : Value → List ℕ
value_text (number n) = signed_decimal n
value_text (cell k) = codes "#" ++ decimal k
