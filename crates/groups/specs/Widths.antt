-- Types of numbers by their bits. Assumes nothing.
use Rattle.std.specs.Prelude.{◌≡◌, ℕ, ◌^◌, ◌<◌, Ok, Err, Result, MatchResult, OkIff}

-- a number that fits the bits is converted to the value that stands for it, any other is not converted
abbrev pub Fits : {A E : Type 0} → ℕ → (A → ℕ) → ℕ → Result A E → Type 0
Fits bits number n r = MatchResult r (λ x. (n < 2 ^ bits) × (number x ≡ n)) (λ e. ¬ (n < 2 ^ bits))

-- an unsigned number stands for itself
pub itself_fits : {E : Type 0} (bits n : ℕ) (r : Result ℕ E) → OkIff r (n < 2 ^ bits) n → Fits bits (λ x. x) n r
itself_fits bits n (Ok x) h = h
itself_fits bits n (Err e) h = h
