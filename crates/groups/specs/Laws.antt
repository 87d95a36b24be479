-- What holds of groups, of reading and of arguments, for every width. Assumes nothing.
use Rattle.std.specs.Prelude.{◌≡◌, ℕ, ◌+◌, ◌-◌, ◌^◌, ◌<◌, ◌≤◌, min, List, [], ◌∷◌, ◌++◌, length, take, drop, Some, Ok, Err, Result, ◌≢◌, slice_index}
use Rattle.groups.specs.declared.arguments.Argument.{Argument}
use Rattle.groups.specs.declared.numbers.NumberFault.{NumberFault}
use Rattle.groups.specs.declared.numbers.NumberFault.TheVariants.{Short, Shape}
use Rattle.groups.specs.Groups.{groups, value, Formed, Stands, written}
use Rattle.groups.specs.Reading.{read_at, fault_place}
use Rattle.groups.specs.Arguments.{code, argument, Lawful}

-- every element is a byte
abbrev pub Bytes : List ℕ → Type 0
Bytes bytes = (i : ℕ) → slice_index bytes i < 256

-- a number's groups stand for it, and of all bytes that do they are the fewest, and the only ones so few
pub record Shortest (n : ℕ) : Type 0 where
  pub formed : Formed (groups n)
  pub stands_for : value (groups n) ≡ n
  pub fewest : (gs : List ℕ) → Formed gs → value gs ≡ n → length (groups n) ≤ length gs
  pub only : (gs : List ℕ) → Formed gs → value gs ≡ n → length gs ≡ length (groups n) → gs ≡ groups n

abbrev pub OneShortest : Type 0
OneShortest = (n : ℕ) → Shortest n

-- from a place on every byte has its top bit set
abbrev pub Cut : List ℕ → ℕ → Type 0
Cut bytes at = (i : ℕ) → at ≤ i → i < length bytes → 128 ≤ slice_index bytes i

-- what reading gives: the number whose groups stand there; cut short; or refused, where a whole number's bytes are no number's groups of the width
pub data Outcome (bytes : List ℕ) (at bits : ℕ) : Result (ℕ × ℕ) NumberFault → Type 0 where
  whole : (n : ℕ) → n < 2 ^ bits → Stands bytes at (groups n) → Outcome bytes at bits (Ok (n, at + length (groups n)))
  short : Cut bytes at → Outcome bytes at bits (Err (Short (min at (length bytes))))
  misshapen : (gs : List ℕ) → Formed gs → Stands bytes at gs → ((n : ℕ) → n < 2 ^ bits → gs ≢ groups n) → Outcome bytes at bits (Err (Shape at))

-- at every place of every bytes exactly one outcome holds, and reading gives it
abbrev pub ReadsExactly : Type 0
ReadsExactly =
    (bytes : List ℕ) (at bits : ℕ) → Bytes bytes → Outcome bytes at bits (read_at bytes at bits) × ((r : Result (ℕ × ℕ) NumberFault) → Outcome bytes at bits r → read_at bytes at bits ≡ r)

-- bytes that are read as a number are exactly its groups, and reading stops right behind them
abbrev pub AcceptsGroups : Type 0
AcceptsGroups =
    (bytes : List ℕ) (at bits n stop : ℕ) → Bytes bytes → read_at bytes at bits ≡ Ok (n, stop) → (n < 2 ^ bits) × (stop ≡ at + length (groups n)) × (drop at bytes ≡ groups n ++ drop stop bytes)

-- a number of the width that was written is read back, and reading stops right behind it
abbrev pub ComesBack : Type 0
ComesBack =
    (out : List ℕ) (at n bits : ℕ) → n < 2 ^ bits → at + length (groups n) ≤ length out → read_at (written out at (groups n)) at bits ≡ Ok (n, at + length (groups n))

-- a wider number that was written is refused
abbrev pub TooWide : Type 0
TooWide =
    (out : List ℕ) (at n bits : ℕ) → 2 ^ bits ≤ n → at + length (groups n) ≤ length out → read_at (written out at (groups n)) at bits ≡ Err (Shape at)

-- writing replaces the bytes at the place and leaves the others
abbrev pub Replaces : Type 0
Replaces =
    (out : List ℕ) (at : ℕ) (bs : List ℕ) → at + length bs ≤ length out → written out at bs ≡ take at out ++ (bs ++ drop (at + length bs) out)

-- a fault's place lies within the bytes or at their end
abbrev pub Placed : Type 0
Placed =
    (bytes : List ℕ) (at bits : ℕ) (f : NumberFault) → read_at bytes at bits ≡ Err f → fault_place f ≤ length bytes

-- some numbers, and some bytes that are none
pub record Samples : Type 0 where
  pub nought : groups 0 ≡ 0x00 ∷ []
  pub hundreds : groups 300 ≡ 0xac ∷ 0x02 ∷ []
  pub top_32 : groups (2 ^ 32 - 1) ≡ 0xff ∷ 0xff ∷ 0xff ∷ 0xff ∷ 0x0f ∷ []
  pub top_64 : groups (2 ^ 64 - 1) ≡ 0xff ∷ 0xff ∷ 0xff ∷ 0xff ∷ 0xff ∷ 0xff ∷ 0xff ∷ 0xff ∷ 0xff ∷ 0x01 ∷ []
  pub longer : read_at (0x80 ∷ 0x00 ∷ []) 0 32 ≡ Err (Shape 0)
  pub wider : read_at (0xff ∷ 0xff ∷ 0xff ∷ 0xff ∷ 0x1f ∷ []) 0 32 ≡ Err (Shape 0)
  pub unended : read_at (0xff ∷ []) 0 32 ≡ Err (Short 0)
  pub none : read_at [] 0 32 ≡ Err (Short 0)

-- a lawful argument comes back from its code
abbrev pub ArgumentsComeBack : Type 0
ArgumentsComeBack = (a : Argument) → Lawful a → argument (code a) ≡ Some a

-- a code is read as an argument only if it is that argument's code, and the argument is lawful
abbrev pub CodesComeBack : Type 0
CodesComeBack = (c : ℕ) (a : Argument) → argument c ≡ Some a → (code a ≡ c) × Lawful a
