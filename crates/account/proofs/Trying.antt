-- The occurrences of a predicate, one head and one rule at a time. Assumes nothing.
use Rattle.std.specs.List.{push}
use Rattle.std.proofs.Common.{◌≡◌, ℕ, ◌+◌, ◌<◌, false, List, [], ◌∷◌, ◌++◌, map, length, get_or, take, drop, sym, ap, ◌∙◌, subst, append-nil, arith}
use Rattle.std.proofs.lemmas.Grind.{common_steps, elements}
use Rattle.std.proofs.lemmas.List.{drop_more}
use Rattle.std.proofs.lemmas.Bool.{cond-false}
use Rattle.parse.specs.declared.tree.Mention.{Mention as CodeMention}
use Rattle.parse.specs.declared.tree.Rule.{Rule as CodeRule}
use Rattle.parse.specs.Model.{mention}
use Rattle.parse.specs.Rules.{rule_view}
use Rattle.book.specs.Predicates.{Predicate, predicates_agree, predicate_of}
use Rattle.account.specs.declared.occurrences.Occurrence.{Occurrence}
use Rattle.account.specs.Occurrences.{at_head, in_heads, in_rules}

-- heads of rule i, from the last to the first
module _ (q : Predicate) (i : ℕ) (fs : List CodeMention) (old : List Occurrence) where
  abbrev pub TriedFrom : ℕ → List Occurrence → Type 0
  TriedFrom j now = now ≡ old ++ in_heads q i j (map mention (drop j fs))

  -- head j is of another predicate
  tried_none_at : (j : ℕ) (f : CodeMention) (now : List Occurrence) → j < length fs → f ≡ get_or fs j f → predicates_agree (predicate_of (mention f)) q ≡ false → TriedFrom (j + 1) now → TriedFrom j now
  tried_none_at j f now h s other so =
      let none : at_head q i j (mention f) ≡ [] = cond-false (predicates_agree (predicate_of (mention f)) q) _ _ other in
      let more = in_heads q i (j + 1) (map mention (drop (j + 1) fs)) in
      so ∙ ap (λ l. old ++ l) (sym (append-nil more) ∙ ap (λ l. more ++ l) (sym none))
      ∙ ap (λ l. old ++ in_heads q i j (map mention l)) (ap (λ x. x ∷ drop (j + 1) fs) s ∙ sym (drop_more fs j f h))

  -- the last of the heads that are left is of another predicate
  pub tried_other : (f : CodeMention) (rest left : List CodeMention) (now : List Occurrence) → rest ≡ push left f → rest ≡ take (length rest) fs → predicates_agree (predicate_of (mention f)) q ≡ false → TriedFrom (length rest) now
      → (left ≡ take (length left) fs) × TriedFrom (length left) now
  tried_other f rest left now p t other so =
      let n : length rest ≡ length left + 1 = grind (arith, common_steps) in
      let h : length left < length fs = grind (arith, common_steps) in
      let s : f ≡ get_or fs (length left) f = grind (arith, common_steps, elements) in
      let l : left ≡ take (length left) fs = grind (arith, common_steps) in
      (l, tried_none_at (length left) f now h s other (subst (λ k. TriedFrom k now) n so))

-- rules, from the first to the last
module _ (q : Predicate) (rs : List CodeRule) where
  abbrev pub LeftFrom : ℕ → List Occurrence → Type 0
  LeftFrom i now = now ++ in_rules q i (map rule_view (drop i rs)) ≡ in_rules q 0 (map rule_view rs)
