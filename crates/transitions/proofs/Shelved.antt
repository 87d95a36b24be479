-- A book's variables are below 6, since the code's are. Assumes nothing.
use Rattle.std.proofs.Common.{◌≡◌, ℕ, ◌<◌, ◌⊎◌, List, [], ◌∷◌, ◌++◌, map, vec_items, sym, refl, ap, ◌∙◌, subst, inl, inr, arith}
use Rattle.parse.specs.declared.tree.Term.{Term as Code}
use Rattle.parse.specs.declared.tree.Term.TheVariants as code
use Rattle.parse.specs.declared.tree.Mention.{Mention as CodeMention}
use Rattle.parse.specs.declared.tree.Rule.{Rule as CodeRule}
use Rattle.parse.specs.declared.few.Few.{Few}
use Rattle.parse.specs.Fews.{few_items}
use Rattle.parse.specs.Model.{term, Mention, mention}
use Rattle.parse.specs.Model as model
use Rattle.parse.specs.Rules as written
use Rattle.parse.specs.Flat.{few_mentions}
use Rattle.book.specs.Predicates.{predicates}
use Rattle.steps.specs.Program.{Pattern, Rule, pattern, numbered_rule}
use Rattle.steps.specs.Relations.{In, here, there, InHeads}
use Rattle.transitions.specs.Books.{BooksFit}
use Rattle.transitions.proofs.Basics.{in_either}

pub in_map : {X Y : Type 0} (f : X → Y) (xs : List X) {y : Y} → In y (map f xs) → (x : X) × In x xs × (f x ≡ y)
in_map f [] m = elim m [ ]
in_map f (x ∷ xs) here = (x, here, refl)
in_map f (x ∷ xs) (there m) = let w = in_map f xs m in (w.0, there w.1, w.2)

below_six : (t : Code) (i : ℕ) → term t ≡ model.variable i → i < 6
below_six (code.Number n) i e = let z : ◌≡◌ {A = ℕ} 0 1 = cc in absurd (omega arith)
below_six (code.Cell k) i e = let z : ◌≡◌ {A = ℕ} 0 1 = cc in absurd (omega arith)
below_six (code.Variable v) i e = let q : v.index ≡ i = cc in subst (λ (k : ℕ). k < 6) q v.few
below_six (code.Sum v n) i e = let z : ◌≡◌ {A = ℕ} 0 1 = cc in absurd (omega arith)

of_mentions : (ms : Few CodeMention) (m : Mention) (i : ℕ) → In m (few_mentions ms) → In (model.variable i) m.arguments → i < 6
of_mentions ms m i h a =
    let w = in_map mention (few_items ms) h in
    let b : In (model.variable i) (mention w.0).arguments = subst (λ (z : Mention). In (model.variable i) z.arguments) (sym w.2) a in
    let u = in_map term (few_items w.0.arguments) b in
    below_six u.0 i u.2

pub books_fit : BooksFit
books_fit b x i m h =
    let w = in_map (numbered_rule (predicates b.predicates)) (map written.rule_view (vec_items b.rules)) m in
    let r = in_map written.rule_view (vec_items b.rules) w.1 in
    let e : numbered_rule (predicates b.predicates) (written.rule_view r.0) ≡ x = ap (numbered_rule (predicates b.predicates)) r.2 ∙ w.2 in
    of_rule r.0 (subst (λ (z : Rule). InHeads i z.heads) (sym e) h)
  where
    of_rule : (r : CodeRule) → InHeads i (numbered_rule (predicates b.predicates) (written.rule_view r)).heads → i < 6
    of_rule r h =
        let w = in_map (pattern (predicates b.predicates)) (few_mentions r.kept ++ few_mentions r.removed) h.1 in
        let a : In (model.variable i) w.0.arguments = subst (λ (z : Pattern). In (model.variable i) z.arguments) (sym w.2) h.2 in
        by w.0 (in_either (few_mentions r.kept) w.1) a
      where
        by : (m : Mention) → In m (few_mentions r.kept) ⊎ In m (few_mentions r.removed) → In (model.variable i) m.arguments → i < 6
        by m (inl k) a = of_mentions r.kept m i k a
        by m (inr k) a = of_mentions r.removed m i k a
