-- What narrowing and asking say of the numbers from a low to a high end.
use Rattle.std.specs.Prelude.{◌≡◌, ℕ, Bool, true, false, cond, not, ◌&&◌, ℤ, ◌≤ℤ◌, Some, None, Decides, Option, refl}
use Rattle.std.proofs.Common.{sym, ap, ap₂, ◌∙◌, subst, arith}
use Rattle.std.proofs.lemmas.Int.{ints}
use Rattle.std.proofs.lemmas.Bool.{both_ways, not-true, true≢false}
use Rattle.cells.specs.declared.relations.Relation.{Relation}
use Rattle.cells.specs.declared.relations.Telling.{Telling}
use Rattle.cells.specs.declared.relations.Relation.TheVariants as relation
use Rattle.cells.specs.declared.relations.Telling.TheVariants as telling
use Rattle.cells.specs.declared.spans.Span.{Span}
use Rattle.cells.specs.Relations.{holds, meets}
use Rattle.cells.specs.Laws.{between, Answers, First, Last}
use Rattle.cells.specs.Spans.{raised, lowered, all_satisfy}

-- v is left exactly if it lay between the ends and satisfies
pub clipped : (low high : ℤ) (t : Telling) (n v : ℤ) → between (raised low t n) (lowered high t n) v ≡ (between low high v && meets t v n)
clipped low high telling.Less n v = grind (arith, ints)
clipped low high telling.AtMost n v = grind (arith, ints)
clipped low high telling.Equal n v = grind (arith, ints)
clipped low high telling.AtLeast n v = grind (arith, ints)
clipped low high telling.Greater n v = grind (arith, ints)

-- narrowed ends stay within the old ones
pub raised_above : (low : ℤ) (t : Telling) (n : ℤ) → low ≤ℤ raised low t n
raised_above low telling.Less n = grind (arith, ints)
raised_above low telling.AtMost n = grind (arith, ints)
raised_above low telling.Equal n = grind (arith, ints)
raised_above low telling.AtLeast n = grind (arith, ints)
raised_above low telling.Greater n = grind (arith, ints)

pub lowered_below : (high : ℤ) (t : Telling) (n : ℤ) → lowered high t n ≤ℤ high
lowered_below high telling.Less n = grind (arith, ints)
lowered_below high telling.AtMost n = grind (arith, ints)
lowered_below high telling.Equal n = grind (arith, ints)
lowered_below high telling.AtLeast n = grind (arith, ints)
lowered_below high telling.Greater n = grind (arith, ints)

-- a number asked for is no member exactly if every member differs from it
not_there : (member : ℤ → Bool) (n : ℤ) → (member n ≡ false) → (v : ℤ) → member v ≡ true → holds relation.Different v n ≡ true
not_there member n h v m =
    elim (holds relation.Different v n) as (λ b. holds relation.Different v n ≡ b → holds relation.Different v n ≡ true)
    [ true ↦ λ e. e | false ↦ λ e. let s : v ≡ n = grind (arith, ints) in absurd (both_ways (member n) h (rw (sym s) m)) ] refl

-- all members satisfy exactly if the two ends do, and for `different`, if the number asked for is no member
pub all_said : (member : ℤ → Bool) (low high : ℤ) → member low ≡ true → member high ≡ true → ((v : ℤ) → member v ≡ true → (low ≤ℤ v) × (v ≤ℤ high))
    → (r : Relation) (n : ℤ) → Decides (all_satisfy low high (member n) r n) ((v : ℤ) → member v ≡ true → holds r v n ≡ true)
all_said member low high l h inside relation.Less n = ((λ e v m. let i = inside v m in grind (arith, ints)), λ all. let a = all low l in let b = all high h in grind (arith, ints))
all_said member low high l h inside relation.AtMost n = ((λ e v m. let i = inside v m in grind (arith, ints)), λ all. let a = all low l in let b = all high h in grind (arith, ints))
all_said member low high l h inside relation.Equal n = ((λ e v m. let i = inside v m in grind (arith, ints)), λ all. let a = all low l in let b = all high h in grind (arith, ints))
all_said member low high l h inside relation.AtLeast n = ((λ e v m. let i = inside v m in grind (arith, ints)), λ all. let a = all low l in let b = all high h in grind (arith, ints))
all_said member low high l h inside relation.Greater n = ((λ e v m. let i = inside v m in grind (arith, ints)), λ all. let a = all low l in let b = all high h in grind (arith, ints))
all_said member low high l h inside relation.Different n = ((λ e v m. not_there member n (not-true _ e) v m), λ all. none (member n) refl all)
  where
    none : (b : Bool) → member n ≡ b → ((v : ℤ) → member v ≡ true → holds relation.Different v n ≡ true) → not b ≡ true
    none true e all = let a = all n e in grind (arith, ints)
    none false e all = refl

-- a kind whose contents hold their least and their greatest member, which is asked by these, and by whether it has the number asked for
module _ (content : ℕ → Bool) (member : ℕ → ℤ → Bool) (low high : ℕ → ℤ) (has : ℕ → ℤ → Bool)
    (has_low : (c : ℕ) → content c ≡ true → member c (low c) ≡ true) (has_high : (c : ℕ) → content c ≡ true → member c (high c) ≡ true)
    (inside : (c : ℕ) (v : ℤ) → member c v ≡ true → (content c ≡ true) × (low c ≤ℤ v) × (v ≤ℤ high c))
    (same : (c : ℕ) (n : ℤ) → content c ≡ true → member c n ≡ has c n) where
  pub asked_by_ends : Answers member (λ c r n. cond (content c) (all_satisfy (low c) (high c) (has c n) r n) true)
  asked_by_ends c r n = at (content c) refl
    where
      at : (b : Bool) → content c ≡ b → Decides (cond b (all_satisfy (low c) (high c) (has c n) r n) true) ((v : ℤ) → member c v ≡ true → holds r v n ≡ true)
      at true e =
          subst
          (λ (x : Bool). Decides (all_satisfy (low c) (high c) x r n) ((v : ℤ) → member c v ≡ true → holds r v n ≡ true))
          (same c n e)
          (all_said (member c) (low c) (high c) (has_low c e) (has_high c e) (λ v m. let p = inside c v m in (p.1, p.2)) r n)
      at false e = ((λ _ v m. absurd (true≢false (sym (inside c v m).0 ∙ e))), λ _. refl)

  pub least_by_ends : (c : ℕ) → First content member c (cond (content c) (Some (low c)) None)
  least_by_ends c = at (content c) refl
    where
      at : (b : Bool) → content c ≡ b → First content member c (cond b (Some (low c)) None)
      at true e = (has_low c e, λ w m. (inside c w m).1)
      at false e = e

  pub greatest_by_ends : (c : ℕ) → Last content member c (cond (content c) (Some (high c)) None)
  greatest_by_ends c = at (content c) refl
    where
      at : (b : Bool) → content c ≡ b → Last content member c (cond b (Some (high c)) None)
      at true e = (has_high c e, λ w m. (inside c w m).2)
      at false e = e

-- ---- the calls

-- a span that came under a test: the test passed, and these are its ends
pub ends_some : (b : Bool) (low high : ℤ) (s : Span) → ◌≡◌ {A = Option Span} (Some s) (cond b (Some (record { low = low; high = high })) None)
    → (b ≡ true) × (s.low ≡ low) × (s.high ≡ high)
ends_some true low high s p = let q : s ≡ record { low = low; high = high } = cc in (refl, ap (λ (x : Span). x.low) q, ap (λ (x : Span). x.high) q)
ends_some false low high s p = absurd (let z : ◌≡◌ {A = ℕ} 0 1 = cc in omega arith)

-- asking, of a set with these ends; m is the number n, as it was passed on
pub asks : (b : Bool) (low high : ℤ) (member : ℤ → Bool) (s : Span) (r : Relation) {m n : ℤ} {x has : Bool} → m ≡ n
    → ◌≡◌ {A = Option Span} (Some s) (cond b (Some (record { low = low; high = high })) None) → has ≡ member m
    → x ≡ all_satisfy s.low s.high has r m → x ≡ cond b (all_satisfy low high (member n) r n) true
asks b low high member s r {m} {n} same e h a =
    let p = ends_some b low high s e in
    a ∙ ap (λ (y : Bool). all_satisfy s.low s.high y r m) h
    ∙ ap (λ (k : ℤ). all_satisfy s.low s.high (member k) r k) same
    ∙ ap₂ (λ (x y : ℤ). all_satisfy x y (member n) r n) p.1 p.2
    ∙ sym (ap (λ (t : Bool). cond t (all_satisfy low high (member n) r n) true) p.0)
