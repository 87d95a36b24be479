-- The laws of bounds.
use Rattle.std.specs.Prelude.{◌≡◌, ℕ, ◌+◌, ◌-◌, ◌*◌, ◌/◌, ◌%◌, ◌<◌, ◌≤◌, Bool, true, false, cond, ◌&&◌, ℤ, pos, negsuc, ◌+ℤ◌, ◌-ℤ◌, ◌≤ℤ◌, Some, None, Option, int_le, nat_le, unsigned_abs, refl}
use Rattle.std.proofs.Common.{sym, ap, ap₂, ◌∙◌, arith, div-add-mod'}
use Rattle.std.proofs.lemmas.Int.{ints}
use Rattle.std.proofs.lemmas.Bool.{and_parts, and_from, leb-true, le-leb, true≢false}
use Rattle.std.proofs.lemmas.Nat.{div-mul-add, mod-mul-add}
use Rattle.cells.specs.declared.relations.Relation.{Relation}
use Rattle.cells.specs.declared.relations.Telling.{Telling}
use Rattle.cells.specs.Relations.{meets}
use Rattle.cells.specs.Laws.{between, tally, Ends, Fits64, Inhabited, Confined, Extensional, Entire, Leaves, Narrows, Answers, First, Last, Counts}
use Rattle.cells.specs.declared.spans.Span.{Span}
use Rattle.cells.specs.Spans.{span, within, raised, lowered, all_satisfy}
use Rattle.cells.specs.Bounds.{bounds_ends, low_of, high_of, packed, is_bounds, bounds_member, bounds_from, bounds_narrowed, bounds_asked, bounds_least, bounds_greatest, bounds_counted}
use Rattle.cells.specs.SpanLaws.{clipped, raised_above, lowered_below, asked_by_ends, least_by_ends, greatest_by_ends, ends_some, asks}
use Rattle.cells.specs.Tallies.{tally_same, tally_none, tally_middle}

-- a content's ends, as natural numbers
ends_are : (c : ℕ) → is_bounds c ≡ true → (c / 4294967296 ≤ c % 4294967296) × (c % 4294967296 ≤ 2000000000)
ends_are c e = let p = and_parts (nat_le (c / 4294967296) (c % 4294967296)) (nat_le (c % 4294967296) 2000000000) e in (leb-true _ _ p.0, leb-true _ _ p.1)

ordered : (c : ℕ) → is_bounds c ≡ true → low_of c ≤ℤ high_of c
ordered c e = let h = ends_are c e in omega (arith, ints)

has_low : (c : ℕ) → is_bounds c ≡ true → bounds_member c (low_of c) ≡ true
has_low c e = let h = ordered c e in rw e (grind (arith, ints))

has_high : (c : ℕ) → is_bounds c ≡ true → bounds_member c (high_of c) ≡ true
has_high c e = let h = ordered c e in rw e (grind (arith, ints))

pub inhabited : Inhabited is_bounds bounds_member
inhabited c e = (low_of c, has_low c e)

-- what a member says: the number is a content, and the member lies between its ends
inside : (c : ℕ) (v : ℤ) → bounds_member c v ≡ true → (is_bounds c ≡ true) × (low_of c ≤ℤ v) × (v ≤ℤ high_of c)
inside c v m =
    let p = and_parts (is_bounds c) (between (low_of c) (high_of c) v) m in
    let q = and_parts (int_le (low_of c) v) (int_le v (high_of c)) p.1 in
    (p.0, omega (arith, ints, q.0), omega (arith, ints, q.1))

pub ends : Ends (negsuc 999999999) (pos 1000000000)
ends = record { from = omega (arith, ints); ordered = omega (arith, ints); to = omega (arith, ints) }

pub fits : Fits64 is_bounds
fits c e = let h = ends_are c e in omega arith

pub confined : Confined (negsuc 999999999) (pos 1000000000) is_bounds bounds_member
confined c v m =
    let p = inside c v m in
    let h = ends_are c p.0 in
    let l : negsuc 999999999 ≤ℤ v = omega (arith, ints, p.1) in
    let r : v ≤ℤ pos 1000000000 = omega (arith, ints, p.2) in
    (p.0, grind (arith, ints))

pub extensional : Extensional is_bounds bounds_member
extensional c d ec ed same =
    let cl = inside d (low_of c) (sym (same (low_of c)) ∙ has_low c ec) in
    let ch = inside d (high_of c) (sym (same (high_of c)) ∙ has_high c ec) in
    let dl = inside c (low_of d) (same (low_of d) ∙ has_low d ed) in
    let dh = inside c (high_of d) (same (high_of d) ∙ has_high d ed) in
    let lows : c / 4294967296 ≡ d / 4294967296 = omega (arith, ints, cl.1, dl.1) in
    let highs : c % 4294967296 ≡ d % 4294967296 = omega (arith, ints, ch.2, dh.2) in
    sym (div-add-mod' c 4294967296) ∙ ap₂ (λ (a b : ℕ). a * 4294967296 + b) lows highs ∙ div-add-mod' d 4294967296

pub entire : Entire (negsuc 999999999) (pos 1000000000) is_bounds bounds_member (packed (negsuc 999999999) (pos 1000000000))
entire = record { is_content = refl; has_all = λ v. refl }

-- an end, to a natural number and back
back : (z : ℤ) → negsuc 999999999 ≤ℤ z → pos (unsigned_abs (z +ℤ pos 1000000000)) -ℤ pos 1000000000 ≡ z
back z l = from (unsigned_abs (z +ℤ pos 1000000000)) (omega (arith, ints))
  where
    from : (a : ℕ) → pos a ≡ z +ℤ pos 1000000000 → pos a -ℤ pos 1000000000 ≡ z
    from a e = omega (arith, ints, e)

-- what two ends within the limits are packed into
packs : (low high : ℤ) → negsuc 999999999 ≤ℤ low → low ≤ℤ high → high ≤ℤ pos 1000000000
    → (low_of (packed low high) ≡ low) × (high_of (packed low high) ≡ high) × (is_bounds (packed low high) ≡ true)
packs low high l m h =
    let l' : negsuc 999999999 ≤ℤ high = omega (arith, ints) in
    let o : unsigned_abs (low +ℤ pos 1000000000) ≤ unsigned_abs (high +ℤ pos 1000000000) = omega (arith, ints) in
    let b : unsigned_abs (high +ℤ pos 1000000000) ≤ 2000000000 = omega (arith, ints) in
    let r : unsigned_abs (high +ℤ pos 1000000000) < 4294967296 = omega arith in
    let p = div-mul-add (unsigned_abs (low +ℤ pos 1000000000)) 4294967296 (unsigned_abs (high +ℤ pos 1000000000)) r in
    let q = mod-mul-add (unsigned_abs (low +ℤ pos 1000000000)) 4294967296 (unsigned_abs (high +ℤ pos 1000000000)) r in
    (rw p (back low l), rw q (back high l'), rw (p, q) (and_from _ _ (le-leb _ _ o) (le-leb _ _ b)))

pub narrows : Narrows is_bounds bounds_member bounds_narrowed
narrows c t n = at (is_bounds c) refl
  where
    made : is_bounds c ≡ true → (b : Bool) → int_le (raised (low_of c) t n) (lowered (high_of c) t n) ≡ b
        → Leaves is_bounds bounds_member c t n (cond b (Some (packed (raised (low_of c) t n) (lowered (high_of c) t n))) None)
    made e true o =
        let h = ends_are c e in
        let u = raised_above (low_of c) t n in
        let d = lowered_below (high_of c) t n in
        let p = packs (raised (low_of c) t n) (lowered (high_of c) t n) (omega (arith, ints, u)) (omega (arith, ints, o)) (omega (arith, ints, d)) in (
          p.2,
          λ v. ap₂ ◌&&◌ p.2 (ap₂ (λ (x y : ℤ). between x y v) p.0 p.1) ∙ clipped (low_of c) (high_of c) t n v
              ∙ ap (λ (x : Bool). (x && between (low_of c) (high_of c) v) && meets t v n) (sym e),
        )
    made e false o = λ v m k.
        let w = clipped (low_of c) (high_of c) t n v ∙ and_from _ _ (and_parts (is_bounds c) _ m).1 k in
        let q = and_parts (int_le (raised (low_of c) t n) v) (int_le v (lowered (high_of c) t n)) w in
        omega (arith, ints, q.0, q.1, o)

    at : (b : Bool) → is_bounds c ≡ b → Leaves is_bounds bounds_member c t n (cond b (bounds_from (raised (low_of c) t n) (lowered (high_of c) t n)) None)
    at true e = made e (int_le (raised (low_of c) t n) (lowered (high_of c) t n)) refl
    at false e = λ v m k. true≢false (sym (inside c v m).0 ∙ e)

-- in a content, a member is what lies between the ends
amid_ends : (c : ℕ) (n : ℤ) → is_bounds c ≡ true → bounds_member c n ≡ between (low_of c) (high_of c) n
amid_ends c n e = ap (λ (x : Bool). x && between (low_of c) (high_of c) n) e

pub answers : Answers bounds_member bounds_asked
answers = asked_by_ends is_bounds bounds_member low_of high_of (λ c n. between (low_of c) (high_of c) n) has_low has_high inside amid_ends

pub leasts : (c : ℕ) → First is_bounds bounds_member c (bounds_least c)
leasts = least_by_ends is_bounds bounds_member low_of high_of bounds_member has_low has_high inside (λ c n e. refl)

pub greatests : (c : ℕ) → Last is_bounds bounds_member c (bounds_greatest c)
greatests = greatest_by_ends is_bounds bounds_member low_of high_of bounds_member has_low has_high inside (λ c n e. refl)

-- of the numbers from the lowest on, those before a, from a to b, and after b
module _ (a b : ℕ) (o : a ≤ b) where
  before : (i : ℕ) → i < a → between (pos a -ℤ pos 1000000000) (pos b -ℤ pos 1000000000) (negsuc 999999999 +ℤ pos i) ≡ false
  before i l = grind (arith, ints)

  amid : (i : ℕ) → i < b + 1 - a → between (pos a -ℤ pos 1000000000) (pos b -ℤ pos 1000000000) ((negsuc 999999999 +ℤ pos a) +ℤ pos i) ≡ true
  amid i l = grind (arith, ints)

  after : (i : ℕ) → between (pos a -ℤ pos 1000000000) (pos b -ℤ pos 1000000000) (((negsuc 999999999 +ℤ pos a) +ℤ pos (b + 1 - a)) +ℤ pos i) ≡ false
  after i = grind (arith, ints)

pub counts : Counts (negsuc 999999999) (pos 1000000000) bounds_member bounds_counted
counts c = at (is_bounds c) refl
  where
    at : (b : Bool) → is_bounds c ≡ b → cond b (c % 4294967296 + 1 - c / 4294967296) 0 ≡ tally (bounds_member c) (negsuc 999999999) 2000000001
    at true e =
        let h = ends_are c e in
        let a : ℕ = c / 4294967296 in
        let b : ℕ = c % 4294967296 in
        let len : a + ((b + 1 - a) + (2000000000 - b)) ≡ 2000000001 = omega arith in
        sym
        (tally_middle (bounds_member c) (negsuc 999999999) a (b + 1 - a) (2000000000 - b)
        (λ i l. ap₂ ◌&&◌ e (before a b h.0 i l))
        (λ i l. ap₂ ◌&&◌ e (amid a b h.0 i l))
        (λ i l. ap₂ ◌&&◌ e (after a b h.0 i)))
        ∙ ap (tally (bounds_member c) (negsuc 999999999)) len
    at false e =
        sym
        (tally_same (bounds_member c) (λ _. false) (negsuc 999999999) 2000000001 (λ i l. ap (λ (x : Bool). x && between (low_of c) (high_of c) (negsuc 999999999 +ℤ pos i)) e)
        ∙ tally_none (negsuc 999999999) 2000000001)

-- ---- the calls

-- the ends that a number holds, if some came
holds_ends : (c : ℕ) (s : Span) → Some s ≡ bounds_ends c → (is_bounds c ≡ true) × (s.low ≡ low_of c) × (s.high ≡ high_of c)
holds_ends c s e = ends_some (is_bounds c) (low_of c) (high_of c) s e

pub bounds_asks : (c : ℕ) (s : Span) (r : Relation) {m n : ℤ} {x has : Bool} → m ≡ n → Some s ≡ bounds_ends c → has ≡ within s m
    → x ≡ all_satisfy s.low s.high has r m → x ≡ bounds_asked c r n
bounds_asks c s r {m} same e h a =
    let p = holds_ends c s e in
    asks (is_bounds c) (low_of c) (high_of c) (between (low_of c) (high_of c)) s r same e (h ∙ ap₂ (λ (x y : ℤ). between x y m) p.1 p.2) a

-- bounds_narrowed, at the ends of a content
at_ends : (c : ℕ) (s : Span) (t : Telling) (n : ℤ) → Some s ≡ bounds_ends c
    → bounds_from (raised s.low t n) (lowered s.high t n) ≡ bounds_narrowed c t n
at_ends c s t n e =
    let p = holds_ends c s e in
    ap₂ (λ (l h : ℤ). bounds_from (raised l t n) (lowered h t n)) p.1 p.2
    ∙ sym (ap (λ (b : Bool). cond b (bounds_from (raised (low_of c) t n) (lowered (high_of c) t n)) None) p.0)

-- nothing is left
pub clips_none : (c : ℕ) (s : Span) (t : Telling) {m n : ℤ} → m ≡ n → Some s ≡ bounds_ends c → None ≡ span (raised s.low t m) (lowered s.high t m)
    → None ≡ bounds_narrowed c t n
clips_none c s t {n = n} same e h =
    at (raised s.low t n) (lowered s.high t n) (int_le (raised s.low t n) (lowered s.high t n))
    (h ∙ ap (λ (k : ℤ). span (raised s.low t k) (lowered s.high t k)) same)
    ∙ at_ends c s t n e
  where
    at : (l m : ℤ) (b : Bool) → ◌≡◌ {A = Option Span} None (cond b (Some (record { low = l; high = m })) None) → None ≡ cond b (Some (packed l m)) None
    at l m true p = absurd (let z : ◌≡◌ {A = ℕ} 0 1 = cc in omega arith)
    at l m false p = refl

-- what is left lies within the limits, and is packed
pub clips_some : (c : ℕ) (s left : Span) (t : Telling) {m n : ℤ} → m ≡ n → Some s ≡ bounds_ends c → Some left ≡ span (raised s.low t m) (lowered s.high t m)
    → (negsuc 999999999 ≤ℤ left.low) × (left.low ≤ℤ left.high) × (left.high ≤ℤ pos 1000000000) × (Some (packed left.low left.high) ≡ bounds_narrowed c t n)
clips_some c s left t {n = n} same e h =
    let p = holds_ends c s e in
    let q = ends_some (int_le (raised s.low t n) (lowered s.high t n)) (raised s.low t n) (lowered s.high t n) left (h ∙ ap (λ (k : ℤ). span (raised s.low t k) (lowered s.high t k)) same) in
    let k = ends_are c p.0 in
    let u = raised_above s.low t n in
    let d = lowered_below s.high t n in
    let l : negsuc 999999999 ≤ℤ left.low = omega (arith, ints, p.1, q.1, u) in
    let m : left.low ≤ℤ left.high = omega (arith, ints, q.0, q.1, q.2) in
    let r : left.high ≤ℤ pos 1000000000 = omega (arith, ints, p.2, q.2, d) in (
      l,
      m,
      r,
      ap₂ (λ (x y : ℤ). Some (packed x y)) q.1 q.2
          ∙ sym (ap (λ (b : Bool). cond b (Some (packed (raised s.low t n) (lowered s.high t n))) None) q.0)
          ∙ at_ends c s t n e,
    )

-- how many numbers lie from end to end
pub counted_by : (c : ℕ) (s : Span) → Some s ≡ bounds_ends c
    → (s.low ≤ℤ s.high) × (negsuc 999999999 ≤ℤ s.low) × (s.high ≤ℤ pos 1000000000) × ((k : ℕ) → pos k ≡ (s.high -ℤ s.low) +ℤ pos 1 → k ≡ bounds_counted c)
counted_by c s e =
    let p = holds_ends c s e in
    let h = ends_are c p.0 in (
      omega (arith, ints, p.1, p.2),
      omega (arith, ints, p.1),
      omega (arith, ints, p.2),
      λ k j. (let i : k ≡ c % 4294967296 + 1 - c / 4294967296 = omega (arith, ints, p.1, p.2, j) in i)
          ∙ sym (ap (λ (b : Bool). cond b (c % 4294967296 + 1 - c / 4294967296) 0) p.0),
    )
