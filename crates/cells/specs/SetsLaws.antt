-- The laws of sets.
use Rattle.std.specs.Prelude.{◌≡◌, ℕ, ◌+◌, ◌^◌, ◌<◌, ◌≤◌, Bool, true, false, cond, ◌&&◌, ◌⊎◌, ℤ, pos, negsuc, ◌+ℤ◌, ◌≤ℤ◌, Some, None, Option, count_ones, int_le, nat_le, nat_lt, unsigned_abs}
use Rattle.std.proofs.Math.Path.{refl, sym, ap}
use Rattle.std.proofs.Common.{ap₂, ◌∙◌, subst, inl, inr}
use Rattle.std.proofs.Math.Nat.{lt_of_le_of_lt}
use native.Mathlib.Omega.{arith}
use borrow.Author.Differences.{ints}
use Rattle.std.specs.Int.Bits.{bit_and, and_zero_l}
use Rattle.std.specs.Int.Count.{ones_in}
use Rattle.std.proofs.lemmas.Bool.{and_parts, and_from, le-leb, ltb-true, ltb-false, lt-ltb, true≢false, both_ways, cases_Bool}
use Rattle.std.proofs.lemmas.Nat.{pow_pos, and_le_l}
use Rattle.std.proofs.lemmas.Bool.Decides.{nat_tests}
use Rattle.cells.specs.declared.relations.Telling.{Telling}
use Rattle.cells.specs.declared.spans.Span.{Span}
use Rattle.cells.specs.Relations.{meets}
use Rattle.cells.specs.Laws.{between, tally, Ends, Fits64, Inhabited, Confined, Extensional, Entire, Leaves, Narrows, Answers, First, Last, Counts}
use Rattle.cells.specs.Spans.{span, raised, lowered}
use Rattle.cells.specs.Sets.{bit, is_set, set_member, window, some_bits, set_within, set_narrowed, lowest_bit, highest_bit, set_asked, set_least, set_greatest, set_counted}
use Rattle.cells.specs.SpanLaws.{clipped, raised_above, asked_by_ends, least_by_ends, greatest_by_ends, ends_some}
use Rattle.cells.specs.Tallies.{tally_same, tally_none}
use Rattle.cells.specs.Bitwise.{bits_same, bit_of_and, bit_window, bit_beyond, trailing_bit, leading_bit, all_ones, tally_bits}

-- a content, as a number
is_some : (c : ℕ) → is_set c ≡ true → (0 < c) × (c < 2 ^ 64)
is_some c e = let p = and_parts (nat_lt 0 c) (nat_lt c (2 ^ 64)) e in (ltb-true _ _ p.0, ltb-true _ _ p.1)

-- a number of 64 bits is a content if it is not 0
some_is : (c : ℕ) → 0 < c → c < 2 ^ 64 → is_set c ≡ true
some_is c p h = and_from _ _ (lt-ltb 0 c p) (lt-ltb c (2 ^ 64) h)

-- what a member says
inside : (c : ℕ) (v : ℤ) → set_member c v ≡ true → (is_set c ≡ true) × (between (pos 0) (pos 63) v ≡ true) × (bit c (unsigned_abs v) ≡ true)
inside c v m =
    let p = and_parts (is_set c) (between (pos 0) (pos 63) v && bit c (unsigned_abs v)) m in
    let q = and_parts (between (pos 0) (pos 63) v) (bit c (unsigned_abs v)) p.1 in
    (p.0, q.0, q.1)

-- a bit that is set is a member
is_member : (c k : ℕ) → is_set c ≡ true → k < 64 → bit c k ≡ true → set_member c (pos k) ≡ true
is_member c k e l b =
    and_from _ _ e (and_from _ _ (and_from (nat_le 0 k) (nat_le k 63) (le-leb 0 k (omega arith)) (le-leb k 63 (omega arith))) b)

has_low : (c : ℕ) → is_set c ≡ true → set_member c (pos (lowest_bit c)) ≡ true
has_low c e = let p = is_some c e in let t = trailing_bit 64 c p.0 p.1 in is_member c (lowest_bit c) e t.0 t.1

-- the highest bit
top : (c : ℕ) → is_set c ≡ true → (highest_bit c < 64) × (bit c (highest_bit c) ≡ true) × ((k : ℕ) → bit c k ≡ true → k ≤ highest_bit c)
top c e =
    let p = is_some c e in
    let t = leading_bit 64 c p.0 p.1 in
    let j : t.0 ≡ highest_bit c = omega (arith, t.1) in
    subst (λ (x : ℕ). (x < 64) × (bit c x ≡ true) × ((k : ℕ) → bit c k ≡ true → k ≤ x)) j (omega (arith, t.1), t.2, t.3)

has_high : (c : ℕ) → is_set c ≡ true → set_member c (pos (highest_bit c)) ≡ true
has_high c e = let t = top c e in is_member c (highest_bit c) e t.0 t.1

-- a member lies between the lowest and the highest bit
amid : (c : ℕ) → is_set c ≡ true → (v : ℤ) → set_member c v ≡ true → (pos (lowest_bit c) ≤ℤ v) × (v ≤ℤ pos (highest_bit c))
amid c e (pos k) m =
    let p = is_some c e in
    let b = (inside c (pos k) m).2 in
    let l = (trailing_bit 64 c p.0 p.1).2 k b in
    let h = (top c e).2 k b in
    (omega (arith, ints), omega (arith, ints))
amid c e (negsuc k) m = absurd (true≢false (sym (inside c (negsuc k) m).1))

pub ends : Ends (pos 0) (pos 63)
ends = record { from = omega (arith, ints); ordered = omega (arith, ints); to = omega (arith, ints) }

pub fits : Fits64 is_set
fits c e = (is_some c e).1

pub inhabited : Inhabited is_set set_member
inhabited c e = (pos (lowest_bit c), has_low c e)

pub confined : Confined (pos 0) (pos 63) is_set set_member
confined c v m = let p = inside c v m in (p.0, p.1)

-- in a content, a member is a bit
alone : (c : ℕ) → is_set c ≡ true → (k : ℕ) → k < 64 → set_member c (pos k) ≡ bit c k
alone c e k l = ap₂ (λ (x y : Bool). x && (y && bit c k)) e (and_from (nat_le 0 k) (nat_le k 63) (le-leb 0 k (omega arith)) (le-leb k 63 (omega arith)))

pub extensional : Extensional is_set set_member
extensional c d ec ed same =
    let p = is_some c ec in
    let q = is_some d ed in
    bits_same 64 c d p.1 q.1 (λ k l. sym (alone c ec k l) ∙ same (pos k) ∙ alone d ed k l)

pub entire : Entire (pos 0) (pos 63) is_set set_member (window 0 63)
entire = record { is_content = refl; has_all = all }
  where
    all : (v : ℤ) → set_member (window 0 63) v ≡ between (pos 0) (pos 63) v
    all (pos k) =
        ap (λ (x : Bool). (nat_le 0 k && nat_le k 63) && x) (bit_window 0 63 k (omega arith))
        ∙ (let e : ((nat_le 0 k && nat_le k 63) && (nat_le 0 k && nat_le k 63)) ≡ (nat_le 0 k && nat_le k 63) = grind (arith, nat_tests) in e)
    all (negsuc k) = refl

-- ---- narrowing

regroup : (x y z : Bool) → (x && (y && (x && z))) ≡ ((x && y) && z)
regroup true y z = refl
regroup false y z = refl

not_negative : (z : ℤ) → pos 0 ≤ℤ z → z ≡ pos (unsigned_abs z)
not_negative z h = omega (arith, ints)

-- the bits left are those of members that satisfy
module _ (c : ℕ) (t : Telling) (n : ℤ) (o : int_le (raised (pos 0) t n) (lowered (pos 63) t n) ≡ true) where
  left : ℕ
  left = bit_and c (window (unsigned_abs (raised (pos 0) t n)) (unsigned_abs (lowered (pos 63) t n)))

  left_bit : (v : ℤ) → (between (pos 0) (pos 63) v && bit left (unsigned_abs v)) ≡ ((between (pos 0) (pos 63) v && bit c (unsigned_abs v)) && meets t v n)
  unfolding left
  left_bit (negsuc k) = refl
  left_bit (pos k) =
      let u = raised_above (pos 0) t n in
      let l = not_negative (raised (pos 0) t n) u in
      let r = not_negative (lowered (pos 63) t n) (omega (arith, ints, u, o)) in
      let w = bit_window (unsigned_abs (raised (pos 0) t n)) (unsigned_abs (lowered (pos 63) t n)) k (omega (arith, ints, u, o)) in
      let b = sym (ap₂ (λ (x y : ℤ). between x y (pos k)) l r) ∙ clipped (pos 0) (pos 63) t n (pos k) in
      ap (λ (x : Bool). between (pos 0) (pos 63) (pos k) && x) (bit_of_and c (window (unsigned_abs (raised (pos 0) t n)) (unsigned_abs (lowered (pos 63) t n))) k ∙ ap (λ (x : Bool). bit c k && x) (w ∙ b))
      ∙ regroup (between (pos 0) (pos 63) (pos k)) (bit c k) (meets t (pos k) n)

  left_some : is_set c ≡ true → (b : Bool) → nat_lt 0 left ≡ b → Leaves is_set set_member c t n (cond b (Some left) None)
  unfolding left
  left_some e true p =
      let small = lt_of_le_of_lt (and_le_l c (window (unsigned_abs (raised (pos 0) t n)) (unsigned_abs (lowered (pos 63) t n)))) (is_some c e).1 in
      let k = some_is left (ltb-true 0 left p) small in (
        k,
        λ v. ap (λ (x : Bool). x && (between (pos 0) (pos 63) v && bit left (unsigned_abs v))) k ∙ left_bit v
            ∙ ap (λ (x : Bool). (x && (between (pos 0) (pos 63) v && bit c (unsigned_abs v))) && meets t v n) (sym e),
      )
  left_some e false p = λ v m k.
      let i = inside c v m in
      let b = (and_parts (between (pos 0) (pos 63) v) (bit left (unsigned_abs v)) (left_bit v ∙ and_from _ _ (and_from _ _ i.1 i.2) k)).1 in
      let z : left ≡ 0 = ltb_zero left p in
      both_ways (bit left (unsigned_abs v)) (ap (λ (x : ℕ). bit x (unsigned_abs v)) z ∙ bit_beyond 0 (unsigned_abs v) (pow_pos (unsigned_abs v))) b
    where
      ltb_zero : (x : ℕ) → nat_lt 0 x ≡ false → x ≡ 0
      ltb_zero x h = let g = ltb-false 0 x h in omega arith

pub narrows : Narrows is_set set_member set_narrowed
unfolding left
narrows c t n = at (is_set c) refl
  where
    some : is_set c ≡ true → (b : Bool) → int_le (raised (pos 0) t n) (lowered (pos 63) t n) ≡ b
        → Leaves is_set set_member c t n (cond b (some_bits (bit_and c (window (unsigned_abs (raised (pos 0) t n)) (unsigned_abs (lowered (pos 63) t n))))) None)
    some e true o = left_some c t n o e (nat_lt 0 (left c t n o)) refl
    some e false o = λ v m k.
        let w = clipped (pos 0) (pos 63) t n v ∙ and_from _ _ (inside c v m).1 k in
        let q = and_parts (int_le (raised (pos 0) t n) v) (int_le v (lowered (pos 63) t n)) w in
        omega (arith, ints, q.0, q.1, o)

    at : (b : Bool) → is_set c ≡ b → Leaves is_set set_member c t n (cond b (set_within c (raised (pos 0) t n) (lowered (pos 63) t n)) None)
    at true e = some e (int_le (raised (pos 0) t n) (lowered (pos 63) t n)) refl
    at false e = λ v m k. true≢false (sym (inside c v m).0 ∙ e)

-- ---- asking, the ends and the count

-- a member lies between the least and the greatest
spanned : (c : ℕ) (v : ℤ) → set_member c v ≡ true → (is_set c ≡ true) × (pos (lowest_bit c) ≤ℤ v) × (v ≤ℤ pos (highest_bit c))
spanned c v m = let e = (inside c v m).0 in let p = amid c e v m in (e, p.0, p.1)

pub answers : Answers set_member set_asked
answers = asked_by_ends is_set set_member (λ c. pos (lowest_bit c)) (λ c. pos (highest_bit c)) set_member has_low has_high spanned (λ c n e. refl)

pub leasts : (c : ℕ) → First is_set set_member c (set_least c)
leasts = least_by_ends is_set set_member (λ c. pos (lowest_bit c)) (λ c. pos (highest_bit c)) set_member has_low has_high spanned (λ c n e. refl)

pub greatests : (c : ℕ) → Last is_set set_member c (set_greatest c)
greatests = greatest_by_ends is_set set_member (λ c. pos (lowest_bit c)) (λ c. pos (highest_bit c)) set_member has_low has_high spanned (λ c n e. refl)

pub counts : Counts (pos 0) (pos 63) set_member set_counted
counts c = at (is_set c) refl
  where
    at : (b : Bool) → is_set c ≡ b → cond b (ones_in 64 c) 0 ≡ tally (set_member c) (pos 0) 64
    at true e = sym (tally_bits (set_member c) 0 64 c (λ i l. ap (λ (x : ℕ). set_member c (pos x)) (let z : 0 + i ≡ i = omega arith in z) ∙ alone c e i l))
    at false e = sym (tally_same (set_member c) (λ _. false) (pos 0) 64 (λ i l. ap (λ (x : Bool). x && (between (pos 0) (pos 63) (pos 0 +ℤ pos i) && bit c (unsigned_abs (pos 0 +ℤ pos i)))) e) ∙ tally_none (pos 0) 64)

-- ---- the calls

-- of the numbers of 64 bits, 0 alone is no content
only_zero : (c : ℕ) → c < 2 ^ 64 → is_set c ≡ false → c ≡ 0
only_zero c h e = at (cases_Bool (nat_lt 0 c))
  where
    at : (nat_lt 0 c ≡ true) ⊎ (nat_lt 0 c ≡ false) → c ≡ 0
    at (inl p) = absurd (both_ways (is_set c) e (some_is c (ltb-true 0 c p) h))
    at (inr p) = let g = ltb-false 0 c p in omega arith

pub counts_ones : (c : ℕ) → c < 2 ^ 64 → count_ones c ≡ set_counted c
unfolding ones_in
counts_ones c h = at (is_set c) refl
  where
    at : (b : Bool) → is_set c ≡ b → count_ones c ≡ cond b (ones_in 64 c) 0
    at true e = sym (all_ones 64 c h)
    at false e = let z = only_zero c h e in sym (all_ones 0 c (omega arith))

-- m is the number n, and low and high are the ends that are left, as they were passed on
pub set_clips : (c : ℕ) (left : Span) (t : Telling) {m n low high : ℤ} {w : ℕ} {r : Option ℕ} → c < 2 ^ 64 → m ≡ n → low ≡ left.low → high ≡ left.high
    → Some left ≡ span (raised (pos 0) t m) (lowered (pos 63) t m) → w ≡ window (unsigned_abs low) (unsigned_abs high) → r ≡ some_bits (bit_and c w) → r ≡ set_narrowed c t n
set_clips c left t {n = n} h same l u e k a =
    let p = ends_some (int_le (raised (pos 0) t n) (lowered (pos 63) t n)) (raised (pos 0) t n) (lowered (pos 63) t n) left (e ∙ ap (λ (j : ℤ). span (raised (pos 0) t j) (lowered (pos 63) t j)) same) in
    a ∙ ap (λ (x : ℕ). some_bits (bit_and c x)) (k ∙ ap₂ (λ (x y : ℤ). window (unsigned_abs x) (unsigned_abs y)) (l ∙ p.1) (u ∙ p.2))
    ∙ sym (ap (λ (b : Bool). cond b (some_bits (bit_and c (window (unsigned_abs (raised (pos 0) t n)) (unsigned_abs (lowered (pos 63) t n))))) None) p.0)
    ∙ at (int_le (raised (pos 0) t n) (lowered (pos 63) t n)) (window (unsigned_abs (raised (pos 0) t n)) (unsigned_abs (lowered (pos 63) t n))) (is_set c) refl
  where
    at : (o : Bool) (w : ℕ) (b : Bool) → is_set c ≡ b → cond o (some_bits (bit_and c w)) None ≡ cond b (cond o (some_bits (bit_and c w)) None) None
    at o w true q = refl
    at true w false q = ap some_bits (ap (λ (x : ℕ). bit_and x w) (only_zero c h q) ∙ and_zero_l w)
    at false w false q = refl
