-- Reading a number of a given width at a place. Assumes nothing.
use Rattle.std.specs.Prelude.{ℕ, suc, ◌+◌, ◌^◌, ◌<◌, ◌≤◌, min, cond, ◌&&◌, List, ◌++◌, codes, decimal, length, take, drop, Some, None, Option, Ok, Err, Result, ◌==◌, nat_le, nat_lt}
use Rattle.std.specs.List.{prefix_len}
use Rattle.groups.specs.declared.numbers.NumberFault.{NumberFault}
use Rattle.groups.specs.declared.numbers.NumberFault.TheVariants.{Short, Shape}
use Rattle.groups.specs.Groups.{groups, value, high}

-- the refusal's number: 19 cut short, 20 not the shortest groups or too wide
abbrev pub fault_number : NumberFault → ℕ
fault_number (Short p) = 19
fault_number (Shape p) = 20

-- the refusal's place: the number's first byte, or the end if none of it is there
abbrev pub fault_place : NumberFault → ℕ
fault_place (Short p) = p
fault_place (Shape p) = p

-- the refusal's text
abbrev pub fault_text : NumberFault → List ℕ
fault_text (Short p) = codes "the number at " ++ (decimal p ++ codes " is cut short")
fault_text (Shape p) = codes "the number at " ++ (decimal p ++ codes " is not in its shortest groups or too wide")

-- how many bytes with the top bit set stand from a place on
abbrev pub run : List ℕ → ℕ → ℕ
run bytes at = prefix_len high (drop at bytes)

-- the number of bytes that are as few as it needs, if it fits the bits
abbrev pub number_in : List ℕ → ℕ → Option ℕ
number_in gs bits = cond (nat_lt (value gs) (2 ^ bits) && length (groups (value gs)) == length gs) (Some (value gs)) None

-- a whole number's bytes, taken if they are as few as their value needs and it fits the bits
unfoldable pub taken : List ℕ → ℕ → ℕ → Result (ℕ × ℕ) NumberFault
taken gs at bits =
    cond (nat_lt (value gs) (2 ^ bits) && length (groups (value gs)) == length gs) (Ok (value gs, at + length gs)) (Err (Shape at))

-- the number at a place and the place behind it: its bytes go on to the first one with the top bit clear;
-- it is cut short if there is none, however many bytes there are, and otherwise its groups are looked at
unfoldable pub read_at : List ℕ → ℕ → ℕ → Result (ℕ × ℕ) NumberFault
read_at bytes at bits =
    cond (nat_le (length bytes) (at + run bytes at)) (Err (Short (min at (length bytes)))) (taken (take (suc (run bytes at)) (drop at bytes)) at bits)

-- what was read, with the number in place of the value that stands for it
abbrev pub read_as : {A : Type 0} → (A → ℕ) → Result (A × ℕ) NumberFault → Result (ℕ × ℕ) NumberFault
read_as number (Ok x) = Ok (number x.0, x.1)
read_as number (Err f) = Err f

-- a number read fits the bits and ends within the bytes; a fault's place lies within them or at their end
abbrev pub Within : Result (ℕ × ℕ) NumberFault → List ℕ → ℕ → ℕ → Type 0
Within (Ok x) bytes at bits = (x.0 < 2 ^ bits) × (at < x.1) × (x.1 ≤ length bytes)
Within (Err f) bytes at bits = fault_place f ≤ length bytes
