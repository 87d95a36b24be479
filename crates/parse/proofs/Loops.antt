-- One turn of the loop that reads parts with a mark between two, up to K of them. Assumes nothing.
use Rattle.std.proofs.Common.{◌≡◌, ℕ, suc, ◌+◌, ◌-◌, ◌<◌, ◌≤◌, true, false, List, [], ◌∷◌, ◌++◌, map, length, drop, sym, refl, ap, ◌∙◌, subst, arith, length-append}
use Rattle.std.proofs.lemmas.Bool.{cond-true, cond-false, false≢true}
use Rattle.std.proofs.lemmas.List.{map_push}
use Rattle.syntax.specs.Syntax.{W, kind, mem, sign, Out, ok, barred, flawed, Reader, after, mapped, ahead, over}
use Rattle.syntax.specs.Parts.{Some, last, more, mark, parts}
use Rattle.syntax.specs.Grammar.{Scope, next_all}
use Rattle.syntax.proofs.Steps.{on, parts_step, behind_one}
use Rattle.parse.specs.declared.flaw.Flaw.{Flaw}
use Rattle.parse.specs.declared.flaw.Flaw.TheVariants.{Barred, TooMany, Unbound, Reused, InGoal, Memory}
use Rattle.parse.specs.Flaws.{flawed_at, listed, Faulted}
use Rattle.parse.specs.Starts.{Over}
use Rattle.parse.specs.Scopes.{Numbers, Keeps}
use Rattle.parse.proofs.Faults.{led}

-- one part too many
pub over_found : {X : Type 0} (ws : List W) (f : Flaw) (first : List ℕ) (at : ℕ) → Over ws f first at → Faulted {X = X} ws f (over first 5 (drop at ws))
over_found {X} ws (Barred i) first at (e, h) = record { found = subst (λ j. over {X = X} first 5 (drop at ws) ≡ barred (drop j ws)) (sym e) (go (drop at ws) h) }
  where
    go : (l : List W) → ahead first l ≡ false → over {X = X} first 5 l ≡ barred l
    go [] h = refl
    go (w ∷ r) h = cond-false (mem first (kind w)) _ _ h
over_found {X} ws (TooMany i) first at (e, h) = record { found = subst (λ j. over {X = X} first 5 (drop at ws) ≡ flawed_at 5 (drop j ws)) (sym e) (go (drop at ws) h) }
  where
    go : (l : List W) → ahead first l ≡ true → over {X = X} first 5 l ≡ flawed_at 5 l
    go [] h = absurd (false≢true h)
    go (w ∷ r) h = cond-true (mem first (kind w)) _ _ h
over_found ws (Unbound i) first at h = absurd h
over_found ws (Reused i) first at h = absurd h
over_found ws (InGoal i) first at h = absurd h
over_found ws Memory first at h = absurd h

-- what was read, and then the rest
abbrev pub prefix : {X : Type 0} → List X → Some X → Some X
prefix [] ys = ys
prefix (x ∷ xs) ys = more x (prefix xs ys)

prefix_more : {X : Type 0} (xs : List X) (x : X) (ys : Some X) → prefix xs (more x ys) ≡ prefix (xs ++ x ∷ []) ys
prefix_more [] x ys = refl
prefix_more (y ∷ xs) x ys = ap (more y) (prefix_more xs x ys)

prefix_fused : {X : Type 0} (xs : List X) (x : X) (o : Out (Some X)) → mapped (prefix xs) (mapped (more x) o) ≡ mapped (prefix (xs ++ x ∷ [])) o
prefix_fused xs x (ok y r) = ap (λ z. ok z r) (prefix_more xs x y)
prefix_fused xs x (barred r) = refl
prefix_fused xs x (flawed n w r) = refl

prefix_none : {X : Type 0} (o : Out (Some X)) → mapped (prefix []) o ≡ o
prefix_none (ok y r) = refl
prefix_none (barred r) = refl
prefix_none (flawed n w r) = refl

pub listed_last : {X : Type 0} (xs : List X) (x : X) → listed (prefix xs (last x)) ≡ xs ++ x ∷ []
listed_last [] x = refl
listed_last (y ∷ xs) x = ap (λ l. y ∷ l) (listed_last xs x)

-- the words behind a mark that stands there
words_left : Out (Unit {0}) → List W
words_left (ok x s) = s
words_left (barred s) = s
words_left (flawed n v s) = s

behind_mark : (c : ℕ) (l r : List W) → ahead (kind (sign c) ∷ []) l ≡ true → mark c l ≡ ok tt r → behind_one l ≡ r
unfolding words_left
behind_mark c [] r h e = absurd (false≢true h)
behind_mark c (w ∷ l) r h e = ap words_left (sym (cond-true (mem (kind (sign c) ∷ []) (kind w)) (ok tt l) _ h) ∙ e)

-- K parts at most
module _ {S X : Type 0} (first : List ℕ) (sep : ℕ) (part : S → Reader X) (next : S → X → S) (K : ℕ) where
  -- what is still to read after so many turns
  unfoldable pub to_read : ℕ → S → List W → Out (Some X)
  to_read turn = parts first sep part next (K - turn)

  -- after some turns: the parts read, in a state, and the words left come to the whole
  abbrev pub Reading : Out (Some X) → ℕ → S → List W → List X → Type 0
  Reading final turn σ l acc = mapped (prefix acc) (to_read turn σ l) ≡ final

  pub starts : (σ : S) (l : List W) → Reading (parts first sep part next K σ l) 0 σ l []
  unfolding to_read
  starts σ l = let k : K - 0 ≡ K = omega arith in prefix_none _ ∙ ap (λ n. parts first sep part next n σ l) k

  module _ (turn : ℕ) (σ : S) (l : List W) (acc : List X) (final : Out (Some X)) (so : Reading final turn σ l acc) where
    pub over_fault : K ≤ turn → (ws : List W) (f : Flaw) → Faulted {X = Some X} ws f (over first 5 l) → Faulted ws f final
    unfolding to_read
    over_fault h ws f e =
        let k : K - turn ≡ 0 = omega arith in
        let q : mapped (prefix acc) (over first 5 l) ≡ final = ap (λ n. mapped (prefix acc) (parts first sep part next n σ l)) (sym k) ∙ so in
        led e (λ r b. sym q ∙ ap (mapped (prefix acc)) b) (λ n w r b. sym q ∙ ap (mapped (prefix acc)) b)

    module _ (few : turn < K) where
      opened : mapped (prefix acc) (after (part σ l) (on first sep part next (K - (turn + 1)) σ)) ≡ final
      unfolding to_read
      opened =
          let k : K - turn ≡ suc (K - (turn + 1)) = omega arith in
          ap (mapped (prefix acc)) (sym (parts_step first sep part next (K - (turn + 1)) σ l)) ∙ ap (λ n. mapped (prefix acc) (parts first sep part next n σ l)) (sym k) ∙ so

      pub turn_fault : (ws : List W) (f : Flaw) → Faulted ws f (part σ l) → Faulted ws f final
      turn_fault ws f e = led e
          (λ r b. sym opened ∙ ap (λ o. mapped (prefix acc) (after o (on first sep part next (K - (turn + 1)) σ))) b)
          (λ n w r b. sym opened ∙ ap (λ o. mapped (prefix acc) (after o (on first sep part next (K - (turn + 1)) σ))) b)

      module _ (a : X) (left : List W) (read : part σ l ≡ ok a left) where
        went : mapped (prefix acc) (on first sep part next (K - (turn + 1)) σ a left) ≡ final
        went = ap (λ o. mapped (prefix acc) (after o (on first sep part next (K - (turn + 1)) σ))) (sym read) ∙ opened

        pub turn_stop : ahead (kind (sign sep) ∷ []) left ≡ false → final ≡ ok (prefix acc (last a)) left
        turn_stop m = sym went ∙ ap (mapped (prefix acc)) (cond-false (ahead (kind (sign sep) ∷ []) left) _ _ m)

        pub turn_next : (past : List W) → ahead (kind (sign sep) ∷ []) left ≡ true → mark sep left ≡ ok tt past → Reading final (turn + 1) (next σ a) past (acc ++ a ∷ [])
        unfolding to_read
        turn_next past m e =
            ap (λ s. mapped (prefix (acc ++ a ∷ [])) (parts first sep part next (K - (turn + 1)) (next σ a) s)) (sym (behind_mark sep left past m e))
            ∙ sym (prefix_fused acc a (parts first sep part next (K - (turn + 1)) (next σ a) (behind_one left)))
            ∙ ap (mapped (prefix acc)) (sym (cond-true (ahead (kind (sign sep) ∷ []) left) _ _ m))
            ∙ went

-- the state after some parts
abbrev pub nexts : {S X : Type 0} → (S → X → S) → S → List X → S
nexts next σ [] = σ
nexts next σ (x ∷ xs) = nexts next (next σ x) xs

nexts_push : {S X : Type 0} (next : S → X → S) (σ : S) (xs : List X) (x : X) → nexts next σ (xs ++ x ∷ []) ≡ next (nexts next σ xs) x
nexts_push next σ [] x = refl
nexts_push next σ (y ∷ xs) x = nexts_push next (next σ y) xs x

nexts_all : {S X : Type 0} (next : S → X → S) (σ : S) (ys : Some X) → next_all next σ ys ≡ nexts next σ (listed ys)
nexts_all next σ (last x) = refl
nexts_all next σ (more x xs) = nexts_all next (next σ x) xs

-- the values so far are those of the parts read, under the variables so far and any more
pub record Gathers {X M : Type 0} (first : List ℕ) (sep : ℕ) (part : Scope → Reader X) (next : Scope → X → Scope) (K : ℕ) (value : List (List ℕ) → X → M) (final : Out (Some X)) (turn : ℕ) (start σ : Scope) (l : List W) (ms : List M) : Type 0 where
  pub read : List X
  pub states : nexts next start read ≡ σ
  pub come : (us : List (List ℕ)) → Numbers σ us → map (value us) read ≡ ms
  pub reading : Reading first sep part next K final turn σ l read

pub gathers_none : {X M : Type 0} (first : List ℕ) (sep : ℕ) (part : Scope → Reader X) (next : Scope → X → Scope) (K : ℕ) (value : List (List ℕ) → X → M) (σ : Scope) (l : List W) (ms : List M) → [] ≡ ms → Gathers first sep part next K value (parts first sep part next K σ l) 0 σ σ l ms
gathers_none first sep part next K value σ l ms e = record { read = []; states = refl; come = λ _ _. e; reading = starts first sep part next K σ l }

module _ {X M : Type 0} {first : List ℕ} {sep : ℕ} {part : Scope → Reader X} {next : Scope → X → Scope} {K : ℕ} {value : List (List ℕ) → X → M} {turn : ℕ} {start σ : Scope} {l : List W} {ms : List M} {final : Out (Some X)} (so : Gathers first sep part next K value final turn start σ l ms) where
  pub gathers_over : K ≤ turn → (ws : List W) (f : Flaw) → Faulted {X = Some X} ws f (over first 5 l) → Faulted ws f final
  gathers_over h ws f e = over_fault first sep part next K turn σ l so.read final so.reading h ws f e

  pub gathers_fault : turn < K → {ws : List W} {f : Flaw} → Faulted ws f (part σ l) → Faulted ws f final
  gathers_fault h {ws} {f} e = turn_fault first sep part next K turn σ l so.read final so.reading h ws f e

  module _ (few : turn < K) (keeps : Keeps next) (a : X) (τ : Scope) (m : M) (grows : next σ a ≡ τ) (comes : (us : List (List ℕ)) → Numbers τ us → value us a ≡ m) (left : List W) (got : part σ l ≡ ok a left) (ns : List M) (grown : ns ≡ ms ++ m ∷ []) where
    all_come : (us : List (List ℕ)) → Numbers τ us → map (value us) (so.read ++ a ∷ []) ≡ ns
    all_come us h =
        let k : Numbers σ us = keeps σ a us (subst (λ ρ. Numbers ρ us) (sym grows) h) in
        map_push (value us) so.read a ∙ ap (λ t. t ++ value us a ∷ []) (so.come us k) ∙ ap (λ x. ms ++ x ∷ []) (comes us h) ∙ sym grown

    after_all : nexts next start (so.read ++ a ∷ []) ≡ τ
    after_all = nexts_push next start so.read a ∙ ap (λ ρ. next ρ a) so.states ∙ grows

    pub gathers_stop : (end : List W) → left ≡ end → ahead (kind (sign sep) ∷ []) end ≡ false → (ys : Some X) × ((next_all next start ys ≡ τ) × ((us : List (List ℕ)) → Numbers τ us → map (value us) (listed ys) ≡ ns)) × (final ≡ ok ys end)
    gathers_stop end e h = (
      prefix so.read (last a),
      (
        nexts_all next start (prefix so.read (last a)) ∙ ap (nexts next start) (listed_last so.read a) ∙ after_all,
        (λ us k. ap (map (value us)) (listed_last so.read a) ∙ all_come us k),
      ),
      turn_stop first sep part next K turn σ l so.read final so.reading few a end (got ∙ ap (ok a) e) h,
    )

    pub gathers_next : (past : List W) → ahead (kind (sign sep) ∷ []) left ≡ true → mark sep left ≡ ok tt past → Gathers first sep part next K value final (turn + 1) start τ past ns
    gathers_next past h e = record {
      read = so.read ++ a ∷ [];
      states = after_all;
      come = all_come;
      reading = subst (λ ρ. Reading first sep part next K final (turn + 1) ρ past (so.read ++ a ∷ [])) grows (turn_next first sep part next K turn σ l so.read final so.reading few a left got past h e);
    }

-- one more in a row
pub row_grown : {T M : Type 0} (view : T → M) (old : List T) (x : T) {new : List T} → new ≡ old ++ x ∷ [] → map view new ≡ map view old ++ view x ∷ []
row_grown view old x e = ap (map view) e ∙ map_push view old x

pub row_longer : {T : Type 0} (old : List T) (x : T) {new : List T} (n : ℕ) → length old ≡ n → new ≡ old ++ x ∷ [] → length new ≡ n + 1
row_longer old x n k e = ap length e ∙ (let l = length-append old (x ∷ []) in omega arith)
