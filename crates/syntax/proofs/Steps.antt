-- The readers one word or one part at a time: for code that reads in a loop. Assumes nothing.
use Rattle.std.proofs.Common.{◌≡◌, ℕ, suc, Bool, true, false, cond, ◌⊎◌, List, [], ◌∷◌, refl, ap, inl, inr}
use Rattle.std.proofs.lemmas.Bool.{cond-false}
use Rattle.syntax.specs.Syntax.{W, name, sign, kind, mem, Out, ok, barred, flawed, Reader, after, mapped, nothing, both, ahead, fork}
use Rattle.syntax.specs.Parts.{Some, last, more, mark, some_of, parts, list_of, many}
use Rattle.syntax.specs.Marks.{open_mark, close_mark}
use Rattle.syntax.specs.Tree.{Fact, bare, applied}
use Rattle.syntax.specs.Grammar.{Scope}
use Rattle.syntax.specs.Readers.{name_kind, name_value, behind_mark, on_mark, fact_of, read_arguments, read_fact}

abbrev pub behind_one : List W → List W
behind_one [] = []
behind_one (w ∷ r) = r

-- the word ahead is the mark
abbrev pub at : ℕ → List W → Bool
at c = ahead (kind (sign c) ∷ [])

-- a mark
pub mark_step : (c : ℕ) (ws : List W) → mark c ws ≡ cond (at c ws) (ok tt (behind_one ws)) (barred ws)
mark_step c [] = refl
mark_step c (w ∷ r) = refl

-- a mark and then a part
abbrev pub marked_off : {X : Type 0} → X → ((u : Unit {0}) × X)
marked_off x = (tt, x)

module _ {X : Type 0} (c : ℕ) (a : Reader X) where
  behind_word : (w : W) (r : List W) (t : Bool) → after {Y = (u : Unit {0}) × X} (cond t (ok tt r) (barred (w ∷ r))) (λ u s. mapped (λ y. (u, y)) (a s)) ≡ cond t (mapped marked_off (a r)) (barred (w ∷ r))
  behind_word w r true = refl
  behind_word w r false = refl

  pub behind_step : (ws : List W) → behind_mark c a ws ≡ cond (at c ws) (mapped marked_off (a (behind_one ws))) (barred ws)
  behind_step [] = refl
  behind_step (w ∷ r) = behind_word w r (mem (kind (sign c) ∷ []) (kind w))

  -- a mark that tells which of two parts comes
  module _ {Y : Type 0} (b : Reader Y) where
    abbrev pub first_way : X → ((u : Unit {0}) × X) ⊎ Y
    first_way x = inl (tt, x)

    on_fuse : (o : Out X) → mapped inl (mapped marked_off o) ≡ mapped first_way o
    on_fuse (ok x r) = refl
    on_fuse (barred r) = refl
    on_fuse (flawed n w r) = refl

    on_word : (w : W) (r : List W) (t : Bool) → cond t (mapped inl (after {Y = (u : Unit {0}) × X} (cond t (ok tt r) (barred (w ∷ r))) (λ u s. mapped (λ y. (u, y)) (a s)))) (mapped inr (b (w ∷ r))) ≡ cond t (mapped first_way (a r)) (mapped inr (b (w ∷ r)))
    on_word w r true = on_fuse (a r)
    on_word w r false = refl

    pub on_step : (ws : List W) → on_mark c a b ws ≡ cond (at c ws) (mapped first_way (a (behind_one ws))) (mapped inr (b ws))
    on_step [] = refl
    on_step (w ∷ r) = on_word w r (mem (kind (sign c) ∷ []) (kind w))

-- several parts, by one part
module _ {S X : Type 0} (first : List ℕ) (sep : ℕ) (part : S → Reader X) (next : S → X → S) (k : ℕ) (σ : S) where
  -- what follows the part x
  abbrev pub on : X → List W → Out (Some X)
  on x r = cond (at sep r) (mapped (more x) (parts first sep part next k (next σ x) (behind_one r))) (ok (last x) r)

  fuse : (x : X) (u : Unit {0}) (o : Out (Some X)) → mapped some_of (mapped (λ y. (x, y)) (mapped inl (mapped (λ y. (u, y)) o))) ≡ mapped (more x) o
  fuse x u (ok y r) = refl
  fuse x u (barred r) = refl
  fuse x u (flawed n w r) = refl

  step_word : (x : X) (w : W) (r : List W) (t : Bool) → mapped some_of (mapped (λ y. (x, y)) (cond t (mapped inl (after (cond t (ok tt r) (barred (w ∷ r))) (λ u s. mapped (λ y. (u, y)) (parts first sep part next k (next σ x) s)))) (mapped inr (ok tt (w ∷ r))))) ≡ cond t (mapped (more x) (parts first sep part next k (next σ x) r)) (ok (last x) (w ∷ r))
  step_word x w r true = fuse x tt (parts first sep part next k (next σ x) r)
  step_word x w r false = refl

  step_rest : (x : X) (r : List W) → mapped some_of (mapped (λ y. (x, y)) (fork (kind (sign sep) ∷ []) (both (mark sep) (λ _. parts first sep part next k (next σ x))) nothing r)) ≡ on x r
  step_rest x [] = refl
  step_rest x (w ∷ r) = step_word x w r (mem (kind (sign sep) ∷ []) (kind w))

  step_out : (o : Out X) → mapped some_of (after o (λ x r. mapped (λ y. (x, y)) (fork (kind (sign sep) ∷ []) (both (mark sep) (λ _. parts first sep part next k (next σ x))) nothing r))) ≡ after o on
  step_out (ok x r) = step_rest x r
  step_out (barred r) = refl
  step_out (flawed n w r) = refl

  pub parts_step : (ws : List W) → parts first sep part next (suc k) σ ws ≡ after (part σ ws) on
  parts_step ws = step_out (part σ ws)

-- parts up to the end, by one part
module _ {S X : Type 0} (first : List ℕ) (part : S → Reader X) (next : S → X → S) (k : ℕ) (σ : S) where
  -- what follows the part x
  abbrev pub then : X → List W → Out (List X)
  then x r = mapped (λ xs. x ∷ xs) (many first part next k (next σ x) r)

  many_fuse : (x : X) (o : Out (List X)) → mapped list_of (mapped inl (mapped (λ y. (x, y)) o)) ≡ mapped (λ xs. x ∷ xs) o
  many_fuse x (ok y r) = refl
  many_fuse x (barred r) = refl
  many_fuse x (flawed n w r) = refl

  many_out : (o : Out X) → mapped list_of (mapped inl (after o (λ x r. mapped (λ y. (x, y)) (many first part next k (next σ x) r)))) ≡ after o then
  many_out (ok x r) = many_fuse x (many first part next k (next σ x) r)
  many_out (barred r) = refl
  many_out (flawed n w r) = refl

  pub many_end : many first part next (suc k) σ [] ≡ ok [] []
  many_end = refl

  pub many_step : (w : W) (r : List W) → many first part next (suc k) σ (w ∷ r) ≡ after (part σ (w ∷ r)) then
  many_step w r = many_out (part σ (w ∷ r))

-- a fact, one word at a time
module _ {A : Type 0} (read : Scope → Reader A) (next : Scope → A → Scope) (σ : Scope) where
  module _ (p : ℕ) (n : List ℕ) where
    abbrev pub shut : Some A → List W → Out (Fact A)
    shut xs u = cond (at close_mark u) (ok (applied p n xs) (behind_one u)) (barred u)

    fact_close : (xs : Some A) (v : W) (u : List W) (t : Bool) → mapped (fact_of read next) (mapped (λ y. ((p, n), y)) (mapped inl (mapped (λ y. (tt, y)) (mapped (λ y. (xs, y)) (cond t (ok tt u) (barred (v ∷ u))))))) ≡ cond t (ok (applied p n xs) u) (barred (v ∷ u))
    fact_close xs v u true = refl
    fact_close xs v u false = refl

    fact_arguments : (o : Out (Some A)) → mapped (fact_of read next) (mapped (λ y. ((p, n), y)) (mapped inl (mapped (λ y. (tt, y)) (after o (λ xs u. mapped (λ y. (xs, y)) (mark close_mark u)))))) ≡ after o shut
    fact_arguments (ok xs []) = refl
    fact_arguments (ok xs (v ∷ u)) = fact_close xs v u (mem (kind (sign close_mark) ∷ []) (kind v))
    fact_arguments (barred r) = refl
    fact_arguments (flawed m w r) = refl

    fact_open : (w : W) (r : List W) (t : Bool) → mapped (fact_of read next) (mapped (λ y. ((p, n), y)) (cond t (mapped inl (after (cond t (ok tt r) (barred (w ∷ r))) (λ u s. mapped (λ y. (u, y)) (both (read_arguments read next σ) (λ _. mark close_mark) s)))) (mapped inr (ok tt (w ∷ r))))) ≡ cond t (after (read_arguments read next σ r) shut) (ok (bare p n) (w ∷ r))
    fact_open w r true = fact_arguments (read_arguments read next σ r)
    fact_open w r false = refl

    pub fact_step : (r : List W) → read_fact read next σ (name p n ∷ r) ≡ cond (at open_mark r) (after (read_arguments read next σ (behind_one r)) shut) (ok (bare p n) r)
    fact_step [] = refl
    fact_step (w ∷ r) = fact_open w r (mem (kind (sign open_mark) ∷ []) (kind w))

  pub fact_other : (w : W) (r : List W) → mem (name_kind ∷ []) (kind w) ≡ false → read_fact read next σ (w ∷ r) ≡ barred (w ∷ r)
  fact_other w r h =
      ap (λ o. mapped (fact_of read next) (after o (λ n u. mapped (λ y. (n, y)) (on_mark open_mark (both (read_arguments read next σ) (λ _. mark close_mark)) nothing u)))) (cond-false (mem (name_kind ∷ []) (kind w)) (ok (name_value w) r) (barred (w ∷ r)) h)
