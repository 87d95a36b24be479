-- An input is a book and a goal behind it. Assumes nothing.
use Rattle.std.specs.Prelude.{◌≡◌, ℕ, ◌+◌, ◌<◌, List, ◌++◌, length, slice_index}

-- `?-` stands at a place
abbrev pub Asks : List ℕ → ℕ → Type 0
Asks text p = (slice_index text p ≡ 63) × (slice_index text (p + 1) ≡ 45)

-- the book is what stands before the first `?-`, the goal what stands from there on, and nothing where there is none
pub record Parted (text book goal : List ℕ) : Type 0 where
  pub whole : text ≡ book ++ goal
  pub none_before : (p : ℕ) → p < length book → Asks text p → ⊥
  pub asks : 0 < length goal → Asks text (length book)
