-- Numbers as groups of seven bits, lowest first, the top bit set on all but the last. Assumes nothing.
use Rattle.std.specs.Prelude.{◌≡◌, ℕ, zero, suc, ◌+◌, ◌*◌, ◌/◌, ◌%◌, ◌<◌, ◌≤◌, Bool, cond, List, [], ◌∷◌, ◌++◌, drop, nat_le, nat_lt, slice_set}

-- the groups of a number, in at most so many steps (`others` is computed only where it is used)
abbrev pub groups_in : ℕ → ℕ → List ℕ
groups_in zero n = []
groups_in (suc k) n = let others = groups_in k (n / 128) in cond (nat_lt n 128) (n ∷ []) ((n % 128 + 128) ∷ others)

-- the groups of a number; it never takes more than n + 1 steps
unfoldable pub groups : ℕ → List ℕ
groups n = groups_in (suc n) n

-- the number that groups stand for
abbrev pub value : List ℕ → ℕ
value [] = 0
value (b ∷ bs) = b % 128 + 128 * value bs

-- bytes with the top bit set on all but the last
pub data Formed : List ℕ → Type 0 where
  last : {b : ℕ} → b < 128 → Formed (b ∷ [])
  more : {b : ℕ} {bs : List ℕ} → 128 ≤ b → b < 256 → Formed bs → Formed (b ∷ bs)

-- a byte has its top bit set
abbrev pub high : ℕ → Bool
high b = nat_le 128 b

-- some bytes stand at a place of a row of bytes
abbrev pub Stands : List ℕ → ℕ → List ℕ → Type 0
Stands bytes at part = (rest : List ℕ) × (drop at bytes ≡ part ++ rest)

-- a buffer with bytes written over it from a place on
abbrev pub written : List ℕ → ℕ → List ℕ → List ℕ
written out at [] = out
written out at (b ∷ bs) = written (slice_set out at b) (at + 1) bs
