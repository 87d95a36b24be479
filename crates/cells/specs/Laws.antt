-- The laws of a kind, over what it says of its contents.
-- A content is a 64-bit number that stands for a set of whole numbers, its members.
use Rattle.std.specs.Prelude.{◌≡◌, ℕ, zero, suc, ◌+◌, ◌^◌, ◌<◌, Bool, true, false, cond, ◌&&◌, ℤ, pos, negsuc, ◌+ℤ◌, ◌-ℤ◌, ◌≤ℤ◌, Some, None, Decides, Option, ◌≢◌, int_le, unsigned_abs}
use Rattle.cells.specs.declared.relations.Relation.{Relation}
use Rattle.cells.specs.declared.relations.Telling.{Telling}
use Rattle.cells.specs.Relations.{holds, meets}

-- whether v lies from one end to the other
abbrev pub between : ℤ → ℤ → ℤ → Bool
between low high v = int_le low v && int_le v high

-- the two ends of a kind lie in order, within a thousand million either way
pub record Ends (lowest highest : ℤ) : Type 0 where
  pub from : negsuc 999999999 ≤ℤ lowest
  pub ordered : lowest ≤ℤ highest
  pub to : highest ≤ℤ pos 1000000000

-- contents are numbers of 64 bits
abbrev pub Fits64 : (ℕ → Bool) → Type 0
Fits64 content = (c : ℕ) → content c ≡ true → c < 2 ^ 64

-- a content has a member
abbrev pub Inhabited : (ℕ → Bool) → (ℕ → ℤ → Bool) → Type 0
Inhabited content member = (c : ℕ) → content c ≡ true → (v : ℤ) × (member c v ≡ true)

-- what has a member is a content, and the member lies from the lowest to the highest
abbrev pub Confined : ℤ → ℤ → (ℕ → Bool) → (ℕ → ℤ → Bool) → Type 0
Confined lowest highest content member = (c : ℕ) (v : ℤ) → member c v ≡ true → (content c ≡ true) × (between lowest highest v ≡ true)

-- contents with the same members are equal
abbrev pub Extensional : (ℕ → Bool) → (ℕ → ℤ → Bool) → Type 0
Extensional content member = (c d : ℕ) → content c ≡ true → content d ≡ true → ((v : ℤ) → member c v ≡ member d v) → c ≡ d

-- the whole content is one, and has all from the lowest to the highest
pub record Entire (lowest highest : ℤ) (content : ℕ → Bool) (member : ℕ → ℤ → Bool) (whole : ℕ) : Type 0 where
  pub is_content : content whole ≡ true
  pub has_all : (v : ℤ) → member whole v ≡ between lowest highest v

-- what narrowing leaves: a content with just the old members that satisfy, or nothing where no member does
abbrev pub Leaves : (ℕ → Bool) → (ℕ → ℤ → Bool) → ℕ → Telling → ℤ → Option ℕ → Type 0
Leaves content member c t n (Some d) = (content d ≡ true) × ((v : ℤ) → member d v ≡ (member c v && meets t v n))
Leaves content member c t n None = (v : ℤ) → member c v ≡ true → meets t v n ≢ true

-- every narrowing leaves that
abbrev pub Narrows : (ℕ → Bool) → (ℕ → ℤ → Bool) → (ℕ → Telling → ℤ → Option ℕ) → Type 0
Narrows content member narrowed = (c : ℕ) (t : Telling) (n : ℤ) → Leaves content member c t n (narrowed c t n)

-- asking says yes exactly if every member satisfies
abbrev pub Answers : (ℕ → ℤ → Bool) → (ℕ → Relation → ℤ → Bool) → Type 0
Answers member asked = (c : ℕ) (r : Relation) (n : ℤ) → Decides (asked c r n) ((v : ℤ) → member c v ≡ true → holds r v n ≡ true)

-- a member with none below it, or no content
abbrev pub First : (ℕ → Bool) → (ℕ → ℤ → Bool) → ℕ → Option ℤ → Type 0
First content member c (Some v) = (member c v ≡ true) × ((w : ℤ) → member c w ≡ true → v ≤ℤ w)
First content member c None = content c ≡ false

-- a member with none above it, or no content
abbrev pub Last : (ℕ → Bool) → (ℕ → ℤ → Bool) → ℕ → Option ℤ → Type 0
Last content member c (Some v) = (member c v ≡ true) × ((w : ℤ) → member c w ≡ true → w ≤ℤ v)
Last content member c None = content c ≡ false

-- how many of n numbers pass a test, the first of them given
unfoldable pub tally : (ℤ → Bool) → ℤ → ℕ → ℕ
tally test from zero = 0
tally test from (suc n) = cond (test from) 1 0 + tally test (from +ℤ pos 1) n

-- how many numbers lie from one end to the other
abbrev pub reach : ℤ → ℤ → ℕ
reach lowest highest = unsigned_abs (highest -ℤ lowest) + 1

-- the count is the number of members
abbrev pub Counts : ℤ → ℤ → (ℕ → ℤ → Bool) → (ℕ → ℕ) → Type 0
Counts lowest highest member counted = (c : ℕ) → counted c ≡ tally (member c) lowest (reach lowest highest)
