-- The bits of a number.
use Rattle.std.specs.Prelude.{◌≡◌, ℕ, zero, suc, ◌+◌, ◌-◌, ◌*◌, ◌/◌, ◌%◌, ◌^◌, ◌<◌, ◌≤◌, Bool, true, false, cond, ◌&&◌, ◌⊎◌, ℤ, pos, ◌==◌, nat_eq, nat_le, nat_lt, refl}
use Rattle.std.proofs.Common.{sym, ap, ap₂, ◌∙◌, subst, div-one, div-add-mod', pow-suc, mul-one, lt_of_lt_of_le, one-add, add-one, arith, pow_mono, shr_lt, shr-shr, inl, inr}
use Rattle.std.proofs.Math.Nat.{div-eq_of_lt, div-eq_of_lt-le}
use Rattle.std.proofs.Math.Arith.{lt-one}
use Rattle.std.specs.Int.Bits.{bit_and, shifted_half, shifted_even}
use Rattle.std.specs.Int.Count.{ones, ones_in, count_leading_zeros, count_trailing_zeros, under, ones_step}
use Rattle.std.proofs.Math.Dec.{leb-suc-suc, leb-suc-zero, leb-zero}
use Rattle.std.proofs.Math.Pow.{high_ones, ones_split, ones_lt}
use Rattle.std.proofs.lemmas.Nat.{pow_pos, div-mul-add, one_shl, and_shr, and_mod, leading_top}
use Rattle.std.proofs.lemmas.Bool.{eq-eqb, both_ways, cases_lt}
use Rattle.std.proofs.lemmas.Bool.Decides.{nat_tests}
use Rattle.cells.specs.Laws.{tally}
use Rattle.cells.specs.Sets.{bit, window}

-- the lowest bit, and the others by half the number
pub bit_zero : (c : ℕ) → bit c 0 ≡ (c % 2 == 1)
bit_zero c = ap (λ (x : ℕ). nat_eq (x % 2) 1) (div-one c)

pub bit_half : (c k : ℕ) → bit c (suc k) ≡ bit (c / 2) k
bit_half c k = ap (λ (x : ℕ). nat_eq (x % 2) 1) (sym (shr-shr c 1 k ∙ ap (λ (x : ℕ). c / 2 ^ x) (one-add k)))

pub bit_beyond : (c k : ℕ) → c < 2 ^ k → bit c k ≡ false
bit_beyond c k h = ap (λ (x : ℕ). nat_eq (x % 2) 1) (div-eq_of_lt h)

half_below : (c w : ℕ) → c < 2 ^ suc w → c / 2 < 2 ^ w
half_below c w h = shr_lt w 1 (subst (λ (x : ℕ). c < 2 ^ x) (sym (add-one w)) h)

same_parity : (a b : ℕ) → (a % 2 == 1) ≡ (b % 2 == 1) → a % 2 ≡ b % 2
same_parity a b e = grind (arith, nat_tests)

-- numbers with the same bits are equal
pub bits_same : (w c d : ℕ) → c < 2 ^ w → d < 2 ^ w → ((k : ℕ) → k < w → bit c k ≡ bit d k) → c ≡ d
bits_same zero c d p q h = lt-one p ∙ sym (lt-one q)
bits_same (suc w) c d p q h =
    let low = same_parity c d (sym (bit_zero c) ∙ h 0 (omega arith) ∙ bit_zero d) in
    let rest = bits_same w (c / 2) (d / 2) (half_below c w p) (half_below d w q) (λ k l. sym (bit_half c k) ∙ h (suc k) (omega arith) ∙ bit_half d k) in
    sym (div-add-mod' c 2) ∙ ap₂ (λ (x y : ℕ). x * 2 + y) rest low ∙ div-add-mod' d 2

-- `and`, bit by bit
and_digit : (x y : ℕ) → x < 2 → y < 2 → (bit_and x y == 1) ≡ (x == 1 && y == 1)
and_digit zero zero p q = refl
and_digit zero (suc zero) p q = refl
and_digit (suc zero) zero p q = refl
and_digit (suc zero) (suc zero) p q = refl
and_digit zero (suc (suc y)) p q = absurd (omega arith)
and_digit (suc zero) (suc (suc y)) p q = absurd (omega arith)
and_digit (suc (suc x)) y p q = absurd (omega arith)

pub bit_of_and : (a b k : ℕ) → bit (bit_and a b) k ≡ (bit a k && bit b k)
bit_of_and a b k =
    ap (λ (x : ℕ). nat_eq (x % 2) 1) (and_shr a b k) ∙ ap (λ (x : ℕ). nat_eq x 1) (and_mod (a / 2 ^ k) (b / 2 ^ k) 1)
    ∙ and_digit (a / 2 ^ k % 2) (b / 2 ^ k % 2) (omega arith) (omega arith)

-- a number moved up by l bits
bit_shifted : (a l k : ℕ) → bit (a * 2 ^ l) k ≡ (nat_le l k && bit a (k - l))
bit_shifted a zero k =
    ap (λ (x : ℕ). bit x k) (mul-one a) ∙ ap (bit a) (let e : k ≡ k - 0 = omega arith in e)
    ∙ ap (λ (x : Bool). x && bit a (k - 0)) (sym (leb-zero k))
bit_shifted a (suc l) zero =
    bit_zero (a * 2 ^ suc l) ∙ ap (λ (x : ℕ). nat_eq x 1) (shifted_even a l) ∙ ap (λ (x : Bool). x && bit a (0 - suc l)) (sym (leb-suc-zero l))
bit_shifted a (suc l) (suc k) =
    bit_half (a * 2 ^ suc l) k ∙ ap (λ (x : ℕ). bit x k) (shifted_half a l) ∙ bit_shifted a l k
    ∙ ap₂ (λ (x : Bool) (y : ℕ). x && bit a y) (sym (leb-suc-suc l k)) (let e : k - l ≡ suc k - suc l = omega arith in e)

-- the number with the lowest j bits set
bit_ones : (j k : ℕ) → bit (2 ^ j - 1) k ≡ nat_lt k j
bit_ones zero k = bit_beyond 0 k (pow_pos k) ∙ sym (leb-suc-zero k)
bit_ones (suc j) zero =
    bit_zero (2 ^ suc j - 1)
    ∙ eq-eqb ((2 ^ suc j - 1) % 2) 1 (let p = pow_pos j in rw (pow-suc 2 j) (omega arith))
    ∙ sym (leb-suc-suc 0 j ∙ leb-zero j)
bit_ones (suc j) (suc k) =
    bit_half (2 ^ suc j - 1) k
    ∙ ap (λ (x : ℕ). bit x k) (let e : (2 ^ suc j - 1) / 2 ≡ 2 ^ j - 1 = let p = pow_pos j in rw (pow-suc 2 j) (omega arith) in e)
    ∙ bit_ones j k ∙ sym (leb-suc-suc (suc k) j)

-- the bits of a window
pub bit_window : (low high k : ℕ) → low ≤ high → bit (window low high) k ≡ (nat_le low k && nat_le k high)
bit_window low high k h =
    let j : ℕ = high + 1 - low in
    let whole : window low high ≡ (2 ^ j - 1) * 2 ^ low =
    (let p = pow_pos low in let q = pow_pos (high + 1) in let e : window low high ≡ 2 ^ (high + 1) - 2 ^ low = omega arith in e)
    ∙ ap (λ (x : ℕ). 2 ^ x - 2 ^ low) (let e : high + 1 ≡ j + low = omega arith in e) ∙ high_ones j low in
    ap (λ (x : ℕ). bit x k) whole ∙ bit_shifted (2 ^ j - 1) low k ∙ ap (λ (x : Bool). nat_le low k && x) (bit_ones j (k - low))
    ∙ (let e : (nat_le low k && nat_lt (k - low) j) ≡ (nat_le low k && nat_le k high) = grind (arith, nat_tests) in e)

-- a window, as two shifts make it
pub shifts : (low high : ℕ) → low ≤ high → high ≤ 63
    → (18446744073709551615 / 2 ^ (63 - high) ≡ 2 ^ (high + 1) - 1) × ((1 * 2 ^ low) % 18446744073709551616 ≡ 2 ^ low) × (2 ^ low ≤ 2 ^ (high + 1))
shifts low high l h =
    let k : ℕ = 63 - high in
    let whole : 18446744073709551615 ≡ (2 ^ (high + 1) - 1) * 2 ^ k + (2 ^ k - 1) =
    ap (λ (x : ℕ). 2 ^ x - 1) (let e : 64 ≡ (high + 1) + k = omega arith in e) ∙ ones_split (high + 1) k in
    let low-64 : low < 64 = omega arith in
    let low-high : low ≤ high + 1 = omega arith in
    (ap (λ (x : ℕ). x / 2 ^ k) whole ∙ div-mul-add (2 ^ (high + 1) - 1) (2 ^ k) (2 ^ k - 1) (ones_lt k), one_shl low 64 low-64, pow_mono low-high)

-- the lowest bit that is set
pub trailing_bit : (w c : ℕ) → 0 < c → c < 2 ^ w
    → (count_trailing_zeros w c < w) × (bit c (count_trailing_zeros w c) ≡ true) × ((k : ℕ) → bit c k ≡ true → count_trailing_zeros w c ≤ k)
unfolding count_trailing_zeros
trailing_bit zero c p h = absurd (omega arith)
trailing_bit (suc w) c p h = at (c % 2) refl (λ q. trailing_bit w (c / 2) q (half_below c w h))
  where
    at : (d : ℕ) → c % 2 ≡ d
        → (0 < c / 2 → (count_trailing_zeros w (c / 2) < w) × (bit (c / 2) (count_trailing_zeros w (c / 2)) ≡ true) × ((k : ℕ) → bit (c / 2) k ≡ true → count_trailing_zeros w (c / 2) ≤ k))
        → (under d (count_trailing_zeros w (c / 2)) < suc w) × (bit c (under d (count_trailing_zeros w (c / 2))) ≡ true) × ((k : ℕ) → bit c k ≡ true → under d (count_trailing_zeros w (c / 2)) ≤ k)
    at zero e ih =
        let r = ih (omega arith) in
        (omega (arith, r.0), bit_half c (count_trailing_zeros w (c / 2)) ∙ r.1, above r.2)
      where
        above : ((k : ℕ) → bit (c / 2) k ≡ true → count_trailing_zeros w (c / 2) ≤ k) → (k : ℕ) → bit c k ≡ true → suc (count_trailing_zeros w (c / 2)) ≤ k
        above f zero b = absurd (both_ways (bit c 0) (bit_zero c ∙ ap (λ (x : ℕ). nat_eq x 1) e) b)
        above f (suc k) b = let g = f k (sym (bit_half c k) ∙ b) in omega arith
    at (suc d) e ih = (omega arith, bit_zero c ∙ eq-eqb (c % 2) 1 (omega arith), λ k b. omega arith)

-- the highest bit that is set
pub leading_bit : (w c : ℕ) → 0 < c → c < 2 ^ w
    → (j : ℕ) × (count_leading_zeros w c + suc j ≡ w) × (bit c j ≡ true) × ((k : ℕ) → bit c k ≡ true → k ≤ j)
leading_bit w c p h = let t = leading_top w c p h in (t.0, t.1, set t.0 t.2 t.3, highest t.0 t.3)
  where
    set : (j : ℕ) → 2 ^ j ≤ c → c < 2 ^ suc j → bit c j ≡ true
    set j l u =
        let d = rw (pow-suc 2 j) at u in
        let one : c / 2 ^ j ≡ 1 = div-eq_of_lt-le (2 ^ j) (omega arith) (omega (arith, d)) in
        ap (λ (x : ℕ). nat_eq (x % 2) 1) one

    highest : (j : ℕ) → c < 2 ^ suc j → (k : ℕ) → bit c k ≡ true → k ≤ j
    highest j u k b = at (cases_lt j k)
      where
        at : (j < k) ⊎ (k ≤ j) → k ≤ j
        at (inl g) = absurd (both_ways (bit c k) (bit_beyond c k (lt_of_lt_of_le u (pow_mono g))) b)
        at (inr g) = g

-- how many bits are set
pub all_ones : (w c : ℕ) → c < 2 ^ w → ones_in w c ≡ ones c
unfolding ones_in ones
all_ones zero c h = ap ones (sym (lt-one h))
all_ones (suc w) c h = ap (λ (x : ℕ). c % 2 + x) (all_ones w (c / 2) (half_below c w h)) ∙ sym (ones_step c)

digit_is : (c : ℕ) → cond (c % 2 == 1) 1 0 ≡ c % 2
digit_is c = grind (arith, nat_tests)

pub tally_bits : (f : ℤ → Bool) (a n c : ℕ) → ((i : ℕ) → i < n → f (pos (a + i)) ≡ bit c i) → tally f (pos a) n ≡ ones_in n c
unfolding tally ones_in
tally_bits f a zero c h = refl
tally_bits f a (suc n) c h =
    let here : f (pos a) ≡ nat_eq (c % 2) 1 = ap (λ (x : ℕ). f (pos x)) (let e : a ≡ a + 0 = omega arith in e) ∙ h 0 (omega arith) ∙ bit_zero c in
    let rest = tally_bits f (a + 1) n (c / 2) (λ i l. ap (λ (x : ℕ). f (pos x)) (let e : a + 1 + i ≡ a + suc i = omega arith in e) ∙ h (suc i) (omega arith) ∙ bit_half c i) in
    ap₂ (λ (x : Bool) (y : ℕ). cond x 1 0 + y) here rest ∙ ap (λ (x : ℕ). x + ones_in n (c / 2)) (digit_is c)
