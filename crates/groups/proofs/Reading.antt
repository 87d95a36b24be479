-- Reading is the one outcome that the bytes at a place have. Assumes nothing.
use Rattle.std.proofs.Common.{◌≡◌, ℕ, suc, ◌+◌, ◌-◌, ◌^◌, ◌<◌, ◌≤◌, min, leb, List, [], ◌∷◌, ◌++◌, length, get_or, take, drop, Some, None, Ok, Err, Result, sym, refl, ap, ◌∙◌, subst, ⊎_elim, add-one, arith}
use Rattle.std.specs.List.{prefix_len}
use Rattle.std.proofs.lemmas.List.{length-drop, length-append, get_or-drop, take-append-drop, take_at, drop_at, drop-drop}
use Rattle.std.proofs.lemmas.Bool.{le-leb, lt-leb, cond-true, cond-false, leb-true, cases_lt, cases_eq}
use Rattle.std.proofs.lemmas.List.Sums.{prefix_len_passes, prefix_len_is}
use Rattle.std.proofs.lemmas.Bool.Decides.{nat_tests}
use Rattle.groups.specs.declared.numbers.NumberFault.{NumberFault}
use Rattle.groups.specs.declared.numbers.NumberFault.TheVariants.{Short, Shape}
use Rattle.groups.specs.Groups.{groups, value, high, Formed, last, more, Stands, written}
use Rattle.groups.specs.Reading.{run, number_in, taken, read_at, read_as, fault_place}
use Rattle.groups.specs.Laws.{Bytes, Cut, Outcome, whole, short, misshapen, ReadsExactly, AcceptsGroups, ComesBack, TooWide, Placed, Samples}
use Rattle.std.proofs.Math.Nat.{pow-le-pow_right}
use Rattle.groups.proofs.Shapes.{formed_groups, value_groups, only, length_formed, mono_groups}
use Rattle.groups.proofs.Writing.{stands_written}

run_high : (x : ℕ) (xs : List ℕ) → 128 ≤ x → prefix_len high (x ∷ xs) ≡ 1 + prefix_len high xs
run_high x xs h = cond-true (leb 128 x) _ _ (le-leb 128 x h)

run_low : (x : ℕ) (xs : List ℕ) → x < 128 → prefix_len high (x ∷ xs) ≡ 0
run_low x xs h = cond-false (leb 128 x) _ _ (lt-leb 128 x h)

-- the run before the first byte with the top bit clear, and that byte, are a number's bytes
formed_front : (xs : List ℕ) → Bytes xs → prefix_len high xs < length xs → Formed (take (suc (prefix_len high xs)) xs)
formed_front [] byte h = absurd (omega arith)
formed_front (x ∷ xs) byte h =
    ⊎_elim
    (λ l. subst (λ k. Formed (take (suc k) (x ∷ xs))) (sym (run_low x xs l)) (last l))
    (λ l.
    let e = run_high x xs l in
    let s : 1 + prefix_len high xs ≡ suc (prefix_len high xs) = omega arith in
    subst (λ k. Formed (take (suc k) (x ∷ xs))) (sym (e ∙ s)) (more l (byte 0) (formed_front xs (λ i. byte (suc i)) (omega arith))))
    (cases_lt x 128)

-- and such bytes are found again, whatever stands behind them
run_formed : {gs : List ℕ} → Formed gs → (rest : List ℕ) → suc (prefix_len high (gs ++ rest)) ≡ length gs
run_formed (last {b} h) rest = ap suc (run_low b rest h)
run_formed (more {b} {bs} hi byte f) rest =
    let e = run_high b (bs ++ rest) hi in
    let i = run_formed f rest in
    omega arith

-- what reading is where a number's bytes stand, and where there are none
pub reads_formed : {gs : List ℕ} (bytes : List ℕ) (at bits : ℕ) → Formed gs → Stands bytes at gs → read_at bytes at bits ≡ taken gs at bits
unfolding read_at
reads_formed {gs} bytes at bits f (rest, e) =
    let k = run_formed f rest in
    let r : suc (run bytes at) ≡ length gs = ap (λ xs. suc (prefix_len high xs)) e ∙ k in
    let l = length-drop at bytes in
    let m = ap length e ∙ length-append gs rest in
    let n = length_formed f in
    cond-false (leb (length bytes) (at + run bytes at)) _ _ (lt-leb (length bytes) (at + run bytes at) (omega arith))
    ∙ ap (λ t. taken (take (suc (run bytes at)) t) at bits) e
    ∙ ap (λ t. taken t at bits) (take_at gs rest (suc (run bytes at)) (sym r))

pub reads_short : (bytes : List ℕ) (at bits : ℕ) → length bytes ≤ at + run bytes at → read_at bytes at bits ≡ Err (Short (min at (length bytes)))
unfolding read_at
reads_short bytes at bits h = cond-true (leb (length bytes) (at + run bytes at)) _ _ (le-leb (length bytes) (at + run bytes at) h)

-- a number's bytes are taken, or refused
pub taken_ok : (gs : List ℕ) (at bits : ℕ) → value gs < 2 ^ bits → length (groups (value gs)) ≡ length gs → taken gs at bits ≡ Ok (value gs, at + length gs)
unfolding taken
taken_ok gs at bits fits as-few = grind (arith, nat_tests)

pub taken_wide : (gs : List ℕ) (at bits : ℕ) → 2 ^ bits ≤ value gs → taken gs at bits ≡ Err (Shape at)
unfolding taken
taken_wide gs at bits wide = grind (arith, nat_tests)

pub taken_long : (gs : List ℕ) (at bits : ℕ) → (length (groups (value gs)) ≡ length gs → ⊥) → taken gs at bits ≡ Err (Shape at)
unfolding taken
taken_long gs at bits long = grind (arith, nat_tests)

-- too large a number is in no groups, and neither is one in more groups than it has
in_wide : (gs : List ℕ) (bits : ℕ) → 2 ^ bits ≤ value gs → None ≡ number_in gs bits
in_wide gs bits wide = grind (arith, nat_tests)

in_long : (gs : List ℕ) (bits : ℕ) → (length (groups (value gs)) ≡ length gs → ⊥) → None ≡ number_in gs bits
in_long gs bits long = grind (arith, nat_tests)

-- more groups than the greatest number of 64 bits has
pub refuses_many : (gs : List ℕ) (bits : ℕ) → bits ≤ 64 → length (groups (2 ^ 64 - 1)) < length gs → None ≡ number_in gs bits
refuses_many gs bits few many =
    ⊎_elim
    (λ fits.
    let up : 2 ^ bits ≤ 2 ^ 64 = pow-le-pow_right (omega arith) {i = bits} {j = 64} few in
    let m = mono_groups (2 ^ 64 - 1) (value gs) (omega arith) in
    in_long gs bits (λ e. omega arith))
    (λ wide. in_wide gs bits wide)
    (cases_lt (value gs) (2 ^ bits))

-- a number's bytes stand at a place exactly if the run ends before the bytes do
pub front : List ℕ → ℕ → List ℕ
front bytes at = take (suc (run bytes at)) (drop at bytes)

pub stands_front : (bytes : List ℕ) (at : ℕ) → Stands bytes at (front bytes at)
unfolding front
stands_front bytes at = (drop (suc (run bytes at)) (drop at bytes), sym (take-append-drop (suc (run bytes at)) (drop at bytes)))

pub formed_at : (bytes : List ℕ) (at : ℕ) → Bytes bytes → at + run bytes at < length bytes → Formed (front bytes at)
unfolding front
formed_at bytes at byte h =
    formed_front (drop at bytes) (λ i. subst (λ b. b < 256) (sym (get_or-drop at bytes i 0)) (byte (at + i))) (omega (arith, length-drop at bytes))

cut_at : (bytes : List ℕ) (at : ℕ) → length bytes ≤ at + run bytes at → Cut bytes at
cut_at bytes at h i from below =
    let k : at + (i - at) ≡ i = omega arith in
    let t = prefix_len_passes high (drop at bytes) (i - at) 0 (omega arith) in
    leb-true 128 _ (ap high (sym (get_or-drop at bytes (i - at) 0 ∙ ap (λ j. get_or bytes j 0) k)) ∙ t)

cut_run : (bytes : List ℕ) (at : ℕ) → Cut bytes at → length bytes ≤ at + run bytes at
cut_run bytes at cut =
    let l = length-drop at bytes in
    let e =
    prefix_len_is high (drop at bytes) (length (drop at bytes)) 0 (omega arith)
    (λ k h. ap high (get_or-drop at bytes k 0) ∙ le-leb 128 _ (cut (at + k) (omega arith) (omega arith)))
    (λ h. absurd (omega arith)) in
    omega arith

-- the two directions
outcome_formed : (gs bytes : List ℕ) (at bits : ℕ) → Formed gs → Stands bytes at gs → Outcome bytes at bits (read_at bytes at bits)
outcome_formed gs bytes at bits f s =
    let e = reads_formed bytes at bits f s in
    ⊎_elim
    (λ fits.
    ⊎_elim
    (λ as-few.
    let same = only f (sym as-few) in
    subst (Outcome bytes at bits) (sym (e ∙ taken_ok gs at bits fits as-few ∙ ap (λ g. Ok (value gs, at + length g)) same)) (whole (value gs) fits (subst (Stands bytes at) same s)))
    (λ long.
    subst (Outcome bytes at bits) (sym (e ∙ taken_long gs at bits long)) (misshapen gs f s (λ n h g. long (sym (ap length (g ∙ ap groups (sym (value_groups n)) ∙ ap (λ t. groups (value t)) (sym g)))))))
    (cases_eq (length (groups (value gs))) (length gs)))
    (λ wide.
    subst (Outcome bytes at bits) (sym (e ∙ taken_wide gs at bits wide)) (misshapen gs f s (λ n h g. let v = ap value g ∙ value_groups n in omega arith)))
    (cases_lt (value gs) (2 ^ bits))

outcome : (bytes : List ℕ) (at bits : ℕ) → Bytes bytes → Outcome bytes at bits (read_at bytes at bits)
outcome bytes at bits byte =
    ⊎_elim
    (λ inside. outcome_formed (front bytes at) bytes at bits (formed_at bytes at byte inside) (stands_front bytes at))
    (λ past. subst (Outcome bytes at bits) (sym (reads_short bytes at bits past)) (short (cut_at bytes at past)))
    (cases_lt (at + run bytes at) (length bytes))

given : (bytes : List ℕ) (at bits : ℕ) (r : Result (ℕ × ℕ) NumberFault) → Outcome bytes at bits r → read_at bytes at bits ≡ r
given bytes at bits r (whole n fits s) =
    let v = value_groups n in
    reads_formed bytes at bits (formed_groups n) s
    ∙ taken_ok (groups n) at bits (omega arith) (ap (λ m. length (groups m)) v)
    ∙ ap (λ m. Ok (m, at + length (groups n))) v
given bytes at bits r (short cut) = reads_short bytes at bits (cut_run bytes at cut)
given bytes at bits r (misshapen gs f s none) =
    reads_formed bytes at bits f s
    ∙ ⊎_elim
    (λ fits. taken_long gs at bits (λ as-few. none (value gs) fits (only f (sym as-few))))
    (λ wide. taken_wide gs at bits wide)
    (cases_lt (value gs) (2 ^ bits))

pub reads_exactly : ReadsExactly
reads_exactly bytes at bits byte = (outcome bytes at bits byte, given bytes at bits)

stands_behind : (gs rest bytes : List ℕ) (at : ℕ) → drop at bytes ≡ gs ++ rest → drop at bytes ≡ gs ++ drop (at + length gs) bytes
stands_behind gs rest bytes at d =
    d ∙ ap (λ t. gs ++ t) (sym (drop_at gs rest (length gs) refl) ∙ ap (drop (length gs)) (sym d) ∙ drop-drop (length gs) at bytes)

accepted : (bytes : List ℕ) (at bits : ℕ) (r : Result (ℕ × ℕ) NumberFault) → Outcome bytes at bits r → (n stop : ℕ) → r ≡ Ok (n, stop) → (n < 2 ^ bits) × (stop ≡ at + length (groups n)) × (drop at bytes ≡ groups n ++ drop stop bytes)
accepted bytes at bits r (whole m fits (rest, d)) n stop e =
    let both : ◌≡◌ {A = ℕ × ℕ} (m, at + length (groups m)) (n, stop) = cc in
    let same : m ≡ n = ap (λ x. x.0) both in
    let behind : at + length (groups m) ≡ stop = ap (λ x. x.1) both in (
      omega arith,
      sym behind ∙ ap (λ k. at + length (groups k)) same,
      stands_behind (groups m) rest bytes at d ∙ ap (λ p. groups m ++ drop p bytes) behind ∙ ap (λ k. groups k ++ drop stop bytes) same,
    )
accepted bytes at bits r (short cut) n stop e = cc
accepted bytes at bits r (misshapen gs f s none) n stop e = cc

pub accepts_groups : AcceptsGroups
accepts_groups bytes at bits n stop byte e = accepted bytes at bits (read_at bytes at bits) (outcome bytes at bits byte) n stop e

pub comes_back : ComesBack
comes_back out at n bits fits room =
    given (written out at (groups n)) at bits (Ok (n, at + length (groups n))) (whole n fits (stands_written (groups n) out at room))

pub too_wide : TooWide
too_wide out at n bits wide room =
    given (written out at (groups n)) at bits (Err (Shape at))
    (misshapen (groups n) (formed_groups n) (stands_written (groups n) out at room) (λ m h e. let v = sym (value_groups n) ∙ ap value e ∙ value_groups m in omega arith))

pub reads_front : (bytes : List ℕ) (at bits : ℕ) → at + run bytes at < length bytes → read_at bytes at bits ≡ taken (front bytes at) at bits
unfolding read_at front
reads_front bytes at bits h = cond-false (leb (length bytes) (at + run bytes at)) _ _ (lt-leb (length bytes) (at + run bytes at) h)

-- what a reader finds in the bytes of a whole number
module _ (bytes part : List ℕ) (at bits : ℕ) (inside : at + run bytes at < length bytes) (is_part : part ≡ take (run bytes at + 1) (drop at bytes)) where
  reads_part : read_at bytes at bits ≡ taken part at bits
  unfolding front
  reads_part = reads_front bytes at bits inside ∙ ap (λ gs. taken gs at bits) (sym (rw add-one at is_part))

  pub refuses_part : None ≡ number_in part bits → Err (Shape at) ≡ read_at bytes at bits
  unfolding taken
  refuses_part e = let t = reads_part in grind (arith, nat_tests)

  pub accepts_part : (n : ℕ) → Some n ≡ number_in part bits → Ok (n, at + length part) ≡ read_at bytes at bits
  unfolding taken
  accepts_part n e = let t = reads_part in grind (arith, nat_tests)

-- a fault of a whole number's bytes is at their place
placed_taken : (gs : List ℕ) (at bits : ℕ) (f : NumberFault) → taken gs at bits ≡ Err f → fault_place f ≡ at
unfolding taken
placed_taken gs at bits (Short p) e = grind (arith, nat_tests)
placed_taken gs at bits (Shape p) e = grind (arith, nat_tests)

pub placed : Placed
placed bytes at bits f e =
    ⊎_elim
    (λ inside. omega (arith, placed_taken (front bytes at) at bits f (sym (reads_front bytes at bits inside) ∙ e)))
    (λ past. let s = reads_short bytes at bits past in let p : f ≡ Short (min at (length bytes)) = cc in omega (arith, ap fault_place p))
    (cases_lt (at + run bytes at) (length bytes))

-- where a number stands for itself, what was read is the outcome
pub itself_read : (r : Result (ℕ × ℕ) NumberFault) → read_as (λ n. n) r ≡ r
itself_read (Ok x) = refl
itself_read (Err f) = refl

-- the samples, by computation
pub samples : Samples
unfolding groups read_at taken
samples =
    record {
      nought = refl;
      hundreds = refl;
      top_32 = refl;
      top_64 = refl;
      longer = refl;
      wider = refl;
      unended = refl;
      none = refl;
    }
