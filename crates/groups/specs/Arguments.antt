-- Arguments as numbers. Assumes nothing.
use Rattle.std.specs.Prelude.{ℕ, suc, ◌+◌, ◌-◌, ◌*◌, ◌/◌, ◌%◌, ◌<◌, cond, ℤ, pos, negsuc, ◌≤ℤ◌, Some, None, Option, ◌==◌, nat_le, nat_lt}
use Rattle.groups.specs.declared.arguments.Argument.{Argument}
use Rattle.groups.specs.declared.arguments.Argument.TheVariants.{Number, Cell}

-- a number's code: 4n, and -4n - 2 below zero (`negsuc n` is -(n + 1))
abbrev pub number_code : ℤ → ℕ
number_code (pos n) = 4 * n
number_code (negsuc n) = 4 * suc n - 2

-- an argument's code: cell k has 2k + 1
abbrev pub code : Argument → ℕ
code (Number n) = number_code n
code (Cell k) = 2 * k + 1

-- numbers within 1,000,000,000 either way and cells below 32
abbrev pub Lawful : Argument → Type 0
Lawful (Number n) = (negsuc 999999999 ≤ℤ n) × (n ≤ℤ pos 1000000000)
Lawful (Cell k) = k < 32

-- the lawful argument that has a code
abbrev pub argument : ℕ → Option Argument
argument c =
    cond (c % 2 == 1) (cond (nat_lt (c / 2) 32) (Some (Cell (c / 2))) None)
    (cond (c % 4 == 0) (cond (nat_le (c / 4) 1000000000) (Some (Number (pos (c / 4)))) None)
    (cond (nat_lt (c / 4) 1000000000) (Some (Number (negsuc (c / 4)))) None))
