-- Counts of the numbers that pass a test.
use Rattle.std.specs.Prelude.{◌≡◌, ℕ, zero, suc, ◌+◌, ◌<◌, Bool, true, false, cond, ℤ, pos, ◌+ℤ◌, refl}
use Rattle.std.proofs.Common.{sym, ap, ◌∙◌, subst, zero-add, suc-add, add_assoc, arith}
use Rattle.std.proofs.lemmas.Int.{ints}
use Rattle.cells.specs.Laws.{tally}

-- the first number, and the others counted from it
pub further : (from : ℤ) (i : ℕ) → (from +ℤ pos 1) +ℤ pos i ≡ from +ℤ pos (suc i)
further from i = omega (arith, ints)

pub nearest : (from : ℤ) → from +ℤ pos 0 ≡ from
nearest from = omega (arith, ints)

-- tests that agree on the numbers counted give the same count
pub tally_same : (f g : ℤ → Bool) (from : ℤ) (n : ℕ) → ((i : ℕ) → i < n → f (from +ℤ pos i) ≡ g (from +ℤ pos i)) → tally f from n ≡ tally g from n
unfolding tally
tally_same f g from zero h = refl
tally_same f g from (suc n) h =
    let here : f from ≡ g from = subst (λ (v : ℤ). f v ≡ g v) (nearest from) (h 0 (omega arith)) in
    let rest = tally_same f g (from +ℤ pos 1) n (λ i l. subst (λ (v : ℤ). f v ≡ g v) (sym (further from i)) (h (suc i) (omega arith))) in
    rw (here, rest)

pub tally_none : (from : ℤ) (n : ℕ) → tally (λ _. false) from n ≡ 0
unfolding tally
tally_none from zero = refl
tally_none from (suc n) = zero-add _ ∙ tally_none (from +ℤ pos 1) n

pub tally_all : (from : ℤ) (n : ℕ) → tally (λ _. true) from n ≡ n
unfolding tally
tally_all from zero = refl
tally_all from (suc n) = let e = tally_all (from +ℤ pos 1) n in omega arith

-- a stretch in two parts
pub tally_parts : (f : ℤ → Bool) (from : ℤ) (m n : ℕ) → tally f from (m + n) ≡ tally f from m + tally f (from +ℤ pos m) n
unfolding tally
tally_parts f from zero n = ap (tally f from) (zero-add n) ∙ sym (zero-add _ ∙ ap (λ (v : ℤ). tally f v n) (nearest from))
tally_parts f from (suc m) n =
    ap (tally f from) (suc-add m n)
    ∙ ap (λ (k : ℕ). cond (f from) 1 0 + k) (tally_parts f (from +ℤ pos 1) m n ∙ ap (λ (v : ℤ). tally f (from +ℤ pos 1) m + tally f v n) (further from m))
    ∙ sym (add_assoc (cond (f from) 1 0) (tally f (from +ℤ pos 1) m) (tally f (from +ℤ pos (suc m)) n))

-- a stretch of which only the middle passes
pub tally_middle : (f : ℤ → Bool) (from : ℤ) (p q r : ℕ) → ((i : ℕ) → i < p → f (from +ℤ pos i) ≡ false) → ((i : ℕ) → i < q → f ((from +ℤ pos p) +ℤ pos i) ≡ true)
    → ((i : ℕ) → i < r → f (((from +ℤ pos p) +ℤ pos q) +ℤ pos i) ≡ false) → tally f from (p + (q + r)) ≡ q
tally_middle f from p q r before within after =
    let whole = tally_parts f from p (q + r) in
    let rest = tally_parts f (from +ℤ pos p) q r in
    let one = tally_same f (λ _. false) from p before ∙ tally_none from p in
    let two = tally_same f (λ _. true) (from +ℤ pos p) q within ∙ tally_all (from +ℤ pos p) q in
    let three = tally_same f (λ _. false) ((from +ℤ pos p) +ℤ pos q) r after ∙ tally_none ((from +ℤ pos p) +ℤ pos q) r in
    omega arith
