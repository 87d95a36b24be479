-- Arrows and rules, from their parts. Assumes nothing.
use Rattle.std.proofs.Common.{◌≡◌, ℕ, suc, ◌-◌, true, false, List, [], ◌∷◌, map, length, sym, refl, ap, ◌∙◌}
use Rattle.std.proofs.lemmas.List.{length-map, append-nil}
use Rattle.syntax.specs.Syntax.{W, kind, sign, ahead, ok, Reader}
use Rattle.syntax.specs.Parts.{Some, last, more, mark}
use Rattle.syntax.specs.Tree as tree
use Rattle.syntax.specs.Grammar.{Scope, binding, bound, closed, seal, next_left, next_all, next_head, behind, scope_of, count}
use Rattle.syntax.specs.Readers.{read_arrow, read_heads, read_guard}
use Rattle.syntax.specs.Marks.{backslash, simplify, simplify_guarded, propagate, propagate_guarded}
use Rattle.parse.specs.declared.flaw.Flaw.{Flaw}
use Rattle.parse.proofs.Chains.{removed_led, simpagating_led, simpagating_all, propagating_all, simplifying_all}
use Rattle.parse.specs.declared.few.Few.{Few}
use Rattle.parse.specs.declared.tree.Mention.{Mention as CodeMention}
use Rattle.parse.specs.Fews.{few_items}
use Rattle.parse.specs.Model.{mention}
use Rattle.parse.specs.Flat.{head_mentions, head_mention, few_mentions}
use Rattle.parse.specs.Flaws.{listed, Faulted}
use Rattle.parse.specs.Scopes.{scope_names, Numbers}
use Rattle.parse.specs.Rules.{behind_from, Arrow, arrow_model, arrow_from, rule_model, rule_under}
use Rattle.parse.specs.Facts.{left_keeps, head_grows, all_keeps, fact_keeps}

pub behind_same : (hs : Some (tree.Fact tree.Left)) (a : tree.Arrow) → behind hs a ≡ behind_from (scope_of hs) a
behind_same hs (tree.propagating g) = refl
behind_same hs (tree.simplifying g) = refl
behind_same hs (tree.simpagating rs g) = refl

pub count_listed : {X : Type 0} (hs : Some X) → count hs ≡ length (listed hs)
count_listed (last x) = refl
count_listed (more x xs) = ap suc (count_listed xs)

seal_numbers : (τ : Scope) (us : List (List ℕ)) → seal τ ≡ bound us → Numbers τ us
seal_numbers (binding ws) us e = ([], sym (ap scope_names e) ∙ sym (append-nil ws))
seal_numbers (bound ws) us e = sym (ap scope_names e)
seal_numbers closed us e = cc

-- the variables behind an arrow extend those before it
pub behind_extends : (vs us : List (List ℕ)) (a : tree.Arrow) → behind_from (binding vs) a ≡ bound us → Numbers (binding vs) us
behind_extends vs us (tree.propagating g) e = seal_numbers (binding vs) us e
behind_extends vs us (tree.simplifying g) e = seal_numbers (binding vs) us e
behind_extends vs us (tree.simpagating rs g) e =
    all_keeps next_head (fact_keeps next_left next_head left_keeps head_grows) (binding vs) rs us (seal_numbers (next_all next_head (binding vs) rs) us e)

map_length : {A B : Type 0} (f : A → B) (l : List A) → length (map f l) ≡ length l
map_length f l = rw length-map

-- the length of the first heads is their count
pub first_count : (vs : List (List ℕ)) (hs : Some (tree.Fact tree.Left)) (first : Few CodeMention) → head_mentions vs hs ≡ few_mentions first → count hs ≡ length (few_items first)
first_count vs hs first e = count_listed hs ∙ sym (map_length (head_mention vs) (listed hs)) ∙ ap length e ∙ map_length mention (few_items first)

-- a rule from its parts: hs are its first heads, vs their variables, us those behind the arrow
module _ (hs : Some (tree.Fact tree.Left)) (first : Few CodeMention) (vs₀ vs : List (List ℕ)) (none : [] ≡ vs₀) (grows : next_all next_head (binding vs₀) hs ≡ binding vs) (comes : (us : List (List ℕ)) → Numbers (binding vs) us → head_mentions us hs ≡ few_mentions first) where
  scoped : scope_of hs ≡ binding vs
  scoped = ap (λ v. next_all next_head (binding v) hs) none ∙ grows

  pub arrow_same : (k : List W) → read_arrow hs k ≡ arrow_from (length (few_items first)) (binding vs) k
  arrow_same k = ap (λ n. arrow_from n (scope_of hs) k) (first_count vs hs first (comes vs ([], sym (append-nil vs)))) ∙ ap (λ σ. arrow_from (length (few_items first)) σ k) scoped

  module _ (y : tree.Arrow) (us : List (List ℕ)) (seals : behind_from (binding vs) y ≡ bound us) where
    pub sealed : behind hs y ≡ bound us
    sealed = behind_same hs y ∙ ap (λ σ. behind_from σ y) scoped ∙ seals

    pub rule_made : (l : tree.Label) (z : Some tree.Alternative) (a : Arrow) → arrow_model us (few_mentions first) y ≡ a → rule_model (tree.rule l hs y z) ≡ rule_under us l a z
    rule_made l z a e =
        let d = behind_extends vs us y seals in
        ap (λ v. rule_under v l (arrow_model v (head_mentions v hs) y) z) (ap scope_names sealed)
        ∙ ap (λ ms. rule_under us l (arrow_model us ms y) z) (comes us d)
        ∙ ap (λ x. rule_under us l x z) e

-- the arrow behind k heads, from its parts
module _ (k : ℕ) (σ : Scope) (l : List W) where
  abbrev kinds : List ℕ
  kinds = kind (sign propagate) ∷ kind (sign propagate_guarded) ∷ []

  abbrev simpagating_guard : Some (tree.Fact tree.Left) → Reader tree.Guard
  simpagating_guard rs = read_guard simplify simplify_guarded (seal (next_all next_head σ rs))

  abbrev simplifying_guard : Reader tree.Guard
  simplifying_guard = read_guard simplify simplify_guarded (seal σ)

  abbrev propagating_guard : Reader tree.Guard
  propagating_guard = read_guard propagate propagate_guarded (seal σ)

  module _ {m : List W} (h : ahead (kind (sign backslash) ∷ []) l ≡ true) (first : mark backslash l ≡ ok tt m) where
    pub removed_flaw : {ws : List W} {f : Flaw} → Faulted ws f (read_heads (3 - k) σ m) → Faulted ws f (arrow_from k σ l)
    removed_flaw e = removed_led kinds (read_heads (3 - k) σ) simpagating_guard propagating_guard simplifying_guard l h first e

    module _ {n : List W} (rs : Some (tree.Fact tree.Left)) (second : read_heads (3 - k) σ m ≡ ok rs n) where
      pub guard_flaw : {ws : List W} {f : Flaw} → Faulted ws f (simpagating_guard rs n) → Faulted ws f (arrow_from k σ l)
      guard_flaw e = simpagating_led kinds (read_heads (3 - k) σ) simpagating_guard propagating_guard simplifying_guard l h first second e

      pub simpagates : {r : List W} {x : tree.Guard} → simpagating_guard rs n ≡ ok x r → arrow_from k σ l ≡ ok (tree.simpagating rs x) r
      simpagates e = simpagating_all kinds (read_heads (3 - k) σ) simpagating_guard propagating_guard simplifying_guard l h first second e

  module _ (m : List W) (e : l ≡ m) (h : ahead (kind (sign backslash) ∷ []) m ≡ false) where
    pub propagates : ahead kinds m ≡ true → {r : List W} {x : tree.Guard} → propagating_guard m ≡ ok x r → arrow_from k σ l ≡ ok (tree.propagating x) r
    propagates t g = ap (arrow_from k σ) e ∙ propagating_all kinds (read_heads (3 - k) σ) simpagating_guard propagating_guard simplifying_guard m h t g

    pub simplifies : ahead kinds m ≡ false → {r : List W} {x : tree.Guard} → simplifying_guard m ≡ ok x r → arrow_from k σ l ≡ ok (tree.simplifying x) r
    simplifies t g = ap (arrow_from k σ) e ∙ simplifying_all kinds (read_heads (3 - k) σ) simpagating_guard propagating_guard simplifying_guard m h t g
