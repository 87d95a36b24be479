-- The groups of a number are its one shortest form. Assumes nothing.
use Rattle.std.proofs.Common.{◌≡◌, ℕ, zero, suc, ◌+◌, ◌*◌, ◌/◌, ◌%◌, ◌^◌, ◌<◌, ◌≤◌, max, ◌-◌, Iter, Bor, Option, Some, ◌++◌, List, [], ◌∷◌, length, drop, sym, refl, ap, ◌∙◌, subst, ⊎_elim, pow-add, arith}
use Rattle.std.proofs.Math.Nat.{pow-le-pow_right, eq-zero-or-pos}
use Rattle.std.proofs.lemmas.List.{get_or-reverse, length_push, length-reverse, drop_more}
use Rattle.std.proofs.lemmas.Bool.{cases_lt}
use Rattle.std.proofs.lemmas.Bool.Decides.{nat_tests}
use Rattle.std.proofs.lemmas.Iterator.Adapters.{YieldsList-from_rev_slice}
use Rattle.std.proofs.lemmas.Iterator.Consumers.{YieldsList-turn}
use Rattle.std.specs.Iterator.{Yields}
use Rattle.std.specs.Iterator.Adapters.{rev_source, rev_steps}
use Rattle.std.specs.Slice.Iter.{iter_rest, iter_steps_back}
use Rattle.std.specs.declared.iter.Rev.{Rev}
use Rattle.groups.specs.Groups.{groups, groups_in, value, Formed, last, more}
use Rattle.groups.specs.Laws.{OneShortest}

low_in : (k n : ℕ) → n < 128 → groups_in (suc k) n ≡ n ∷ []
low_in k n h = grind (arith, nat_tests)

high_in : (k n : ℕ) → 128 ≤ n → groups_in (suc k) n ≡ (n % 128 + 128) ∷ groups_in k (n / 128)
high_in k n h = grind (arith, nat_tests)

-- more steps than the number takes add nothing
enough : (j k n : ℕ) → n < j → n < k → groups_in j n ≡ groups_in k n
enough zero k n a b = absurd (omega arith)
enough (suc j) zero n a b = absurd (omega arith)
enough (suc j) (suc k) n a b =
    ⊎_elim
    (λ l. low_in j n l ∙ sym (low_in k n l))
    (λ l. high_in j n l ∙ ap (λ t. (n % 128 + 128) ∷ t) (enough j k (n / 128) (omega arith) (omega arith)) ∙ sym (high_in k n l))
    (cases_lt n 128)

pub groups_low : (n : ℕ) → n < 128 → groups n ≡ n ∷ []
unfolding groups
groups_low n h = low_in n n h

pub groups_high : (n : ℕ) → 128 ≤ n → groups n ≡ (n % 128 + 128) ∷ groups (n / 128)
unfolding groups
groups_high n h =
    high_in n n h ∙ ap (λ t. (n % 128 + 128) ∷ t) (enough n (suc (n / 128)) (n / 128) (omega arith) (omega arith))

-- what holds of a number below 128, and of a number if of its part above seven bits, holds of all
pub by_sevens : (P : ℕ → Type 0) → ((n : ℕ) → n < 128 → P n) → ((n : ℕ) → 128 ≤ n → P (n / 128) → P n) → (n : ℕ) → P n
by_sevens P small large n = down n n (omega arith)
  where
    down : (k m : ℕ) → m ≤ k → P m
    down zero m h = small m (omega arith)
    down (suc k) m h =
        ⊎_elim (small m) (λ l. large m l (down k (m / 128) (omega arith))) (cases_lt m 128)

pub formed_groups : (n : ℕ) → Formed (groups n)
formed_groups =
    by_sevens (λ n. Formed (groups n))
    (λ n l. rw (groups_low n l) (last l))
    (λ n l f. rw (groups_high n l) (more {b = n % 128 + 128} (omega arith) (omega arith) f))

pub value_groups : (n : ℕ) → value (groups n) ≡ n
value_groups =
    by_sevens (λ n. value (groups n) ≡ n)
    (λ n l. ap value (groups_low n l) ∙ omega arith)
    (λ n l e. ap value (groups_high n l) ∙ ap (λ v. (n % 128 + 128) % 128 + 128 * v) e ∙ omega arith)

pub length_formed : {gs : List ℕ} → Formed gs → 0 < length gs
length_formed (last h) = omega arith
length_formed (more a b f) = omega arith

-- the groups of a number with one more group put below
pub below_none : (m : ℕ) → m < 128 → groups (m + 128 * 0) ≡ m ∷ []
below_none m h = grind (arith, groups_low)

pub below_some : (m v : ℕ) → m < 128 → 0 < v → groups (m + 128 * v) ≡ (m + 128) ∷ groups v
below_some m v h p =
    let q : (m + 128 * v) / 128 ≡ v = omega arith in
    let r : (m + 128 * v) % 128 ≡ m = omega arith in
    grind (arith, groups_high)

nought : (b v : ℕ) → v ≡ 0 → length (groups (b % 128 + 128 * v)) ≡ 1
nought b v e = grind (arith, groups_low)

some : (b v : ℕ) → 0 < v → length (groups (b % 128 + 128 * v)) ≡ suc (length (groups v))
some b v p = grind (arith, below_some)

pub slim : {gs : List ℕ} → Formed gs → length (groups (value gs)) ≤ length gs
slim (last {b} h) = omega (arith, nought b 0 refl)
slim (more {b} {bs} high byte f) =
    ⊎_elim
    (λ e. omega (arith, nought b (value bs) e))
    (λ p. omega (arith, some b (value bs) p, slim f))
    (eq-zero-or-pos (value bs))

pub only : {gs : List ℕ} → Formed gs → length gs ≡ length (groups (value gs)) → gs ≡ groups (value gs)
only (last {b} h) e =
    let m : b % 128 ≡ b = omega arith in
    sym (ap (λ x. groups (x + 128 * 0)) m ∙ below_none b h)
only (more {b} {bs} high byte f) e =
    ⊎_elim
    (λ z. let a = nought b (value bs) z in let l = length_formed f in absurd (omega arith))
    (λ p.
    let a = some b (value bs) p in
    let l : length bs ≡ length (groups (value bs)) = omega arith in
    let m : b % 128 + 128 ≡ b = omega arith in
    ap (λ t. b ∷ t) (only f l) ∙ ap (λ x. x ∷ groups (value bs)) (sym m) ∙ sym (below_some (b % 128) (value bs) (omega arith) p))
    (eq-zero-or-pos (value bs))

pub one_shortest : OneShortest
one_shortest n =
    record {
      formed = formed_groups n;
      stands_for = value_groups n;
      fewest = λ gs f e. subst (λ m. length (groups m) ≤ length gs) e (slim f);
      only = λ gs f e l. only f (l ∙ ap (λ m. length (groups m)) (sym e)) ∙ ap groups e;
    }

-- a number whose highest bit is at a place has a group for each seven bits up to there
length_log : (n k : ℕ) → 2 ^ k ≤ n → n < 2 * 2 ^ k → k / 7 + 1 ≡ length (groups n)
length_log =
    by_sevens (λ n. (k : ℕ) → 2 ^ k ≤ n → n < 2 * 2 ^ k → k / 7 + 1 ≡ length (groups n))
    (λ n l k low high.
    ⊎_elim
    (λ few. omega (arith, ap length (groups_low n l)))
    (λ many. absurd (let up : 2 ^ 7 ≤ 2 ^ k = pow-le-pow_right (omega arith) {i = 7} {j = k} many in omega arith))
    (cases_lt k 7))
    (λ n l up k low high.
    ⊎_elim
    (λ few. absurd (let up : 2 ^ k ≤ 2 ^ 6 = pow-le-pow_right (omega arith) {i = k} {j = 6} (omega arith) in omega arith))
    (λ many.
    let e : 2 ^ k ≡ 2 ^ (k - 7) * 2 ^ 7 = let i : k ≡ k - 7 + 7 = omega arith in ap (λ j. 2 ^ j) i ∙ pow-add 2 (k - 7) 7 in
    omega (arith, ap length (groups_high n l), up (k - 7) (omega arith) (omega arith)))
    (cases_lt k 7))

pub length_log_max : (n m k : ℕ) → m ≡ max n 1 → 2 ^ k ≤ m → m < 2 * 2 ^ k → k / 7 + 1 ≡ length (groups n)
unfolding groups
length_log_max zero m k e low high = length_log 1 k (omega arith) (omega arith)
length_log_max (suc n) m k e low high = length_log (suc n) k (omega arith) (omega arith)

-- the last groups of some stand for no more than all
value_drop_le : (i : ℕ) (gs : List ℕ) → value (drop i gs) ≤ value gs
value_drop_le zero gs = omega arith
value_drop_le (suc i) [] = omega arith
value_drop_le (suc i) (b ∷ bs) = omega (arith, value_drop_le i bs)

-- one more group from the back
pub value_turn : (gs : List ℕ) (s t u : Rev (Iter ℕ)) → iter_rest (rev_source s) ≡ gs → (xs : List (Bor ℕ)) → Yields (rev_steps iter_steps_back) s xs t → (r : Option (Bor ℕ)) (b : Bor ℕ) → r ≡ Some b → rev_steps iter_steps_back t r u → (n : ℕ) → value (drop (length gs - length xs) gs) ≡ n → (value (drop (length gs - length (xs ++ (b ∷ []))) gs) ≡ b.now % 128 + 128 * n) × (b.now % 128 + 128 * n ≤ value gs)
value_turn gs s t u rest xs yielded r b is steps n all =
    let (below, e) = YieldsList-turn (YieldsList-from_rev_slice gs rest) xs _ yielded r _ b is steps in
    let within : length xs < length gs = omega (arith, length-reverse gs) in
    let d = drop_more gs (length gs - (length xs + 1)) b.now (omega arith) in
    let l = value_drop_le (length gs - (length xs + 1)) gs in
    let v : value (drop (length gs - (length xs + 1)) gs) ≡ b.now % 128 + 128 * n = grind (arith, get_or-reverse) in
    (ap (λ k. value (drop (length gs - k) gs)) (length_push xs b) ∙ v, omega arith)

-- a greater number has no fewer groups
pub mono_groups : (m n : ℕ) → n ≤ m → length (groups n) ≤ length (groups m)
mono_groups =
    by_sevens (λ m. (n : ℕ) → n ≤ m → length (groups n) ≤ length (groups m))
    (λ m l n h. omega (arith, ap length (groups_low m l), ap length (groups_low n (omega arith))))
    (λ m l up n h.
    ⊎_elim
    (λ s. omega (arith, ap length (groups_high m l), ap length (groups_low n s)))
    (λ b. omega (arith, ap length (groups_high m l), ap length (groups_high n b), up (n / 128) (omega arith)))
    (cases_lt n 128))
