-- How the variables grow over the arguments of a fact. Assumes nothing.
use Rattle.std.specs.Prelude.{◌≡◌, ℕ, Bool, true, false, cond, List, [], ◌∷◌, ◌++◌, refl}
use Rattle.std.proofs.Common.{◌∙◌, subst, append_assoc}
use Rattle.syntax.specs.Parts.{Some, last, more}
use Rattle.syntax.specs.Grammar.{Scope, binding, bound, closed, among, joins, same, next_left, next_head, next_all}
use Rattle.syntax.specs.Tree as tree
use Rattle.parse.specs.Scopes.{Numbers, Keeps}

-- the variables grow over a fact as over its arguments
pub record FactGrows {X : Type 0} (next : Scope → X → Scope) (over : Scope → tree.Fact X → Scope) : Type 0 where
  pub bare : (σ : Scope) (p : ℕ) (n : List ℕ) → over σ (tree.bare p n) ≡ σ
  pub applied : (σ : Scope) (p : ℕ) (n : List ℕ) (xs : Some X) → over σ (tree.applied p n xs) ≡ next_all next σ xs

pub same_keeps : {X : Type 0} → Keeps {X = X} same
same_keeps σ y us h = h

pub joins_keeps : Keeps joins
joins_keeps (binding vs) v us h = go (among vs v) h
  where
    go : (t : Bool) → Numbers (binding (cond t vs (vs ++ v ∷ []))) us → Numbers (binding vs) us
    go true k = k
    go false (d, e) = ((v ∷ []) ++ d, e ∙ append_assoc vs (v ∷ []) d)
joins_keeps (bound vs) v us h = h
joins_keeps closed v us h = h

pub left_keeps : Keeps next_left
left_keeps σ (tree.number n) us h = h
left_keeps σ (tree.cell k) us h = h
left_keeps σ (tree.variable v) us h = joins_keeps σ v us h

pub head_grows : FactGrows next_left next_head
head_grows = record { bare = λ σ p n. refl; applied = λ σ p n xs. refl }

pub same_all : {X : Type 0} (σ : Scope) (xs : Some X) → σ ≡ next_all same σ xs
same_all σ (last x) = refl
same_all σ (more x xs) = same_all σ xs

pub adding_grows : {X : Type 0} → FactGrows {X = X} same same
adding_grows = record { bare = λ σ p n. refl; applied = λ σ p n xs. same_all σ xs }

pub all_keeps : {X : Type 0} (next : Scope → X → Scope) → Keeps next → Keeps (next_all next)
all_keeps next k σ (last x) us h = k σ x us h
all_keeps next k σ (more x xs) us h = k σ x us (all_keeps next k (next σ x) xs us h)

pub fact_keeps : {X : Type 0} (next : Scope → X → Scope) (over : Scope → tree.Fact X → Scope) → Keeps next → FactGrows next over → Keeps over
fact_keeps next over k g σ (tree.bare p n) us h = subst (λ ρ. Numbers ρ us) (g.bare σ p n) h
fact_keeps next over k g σ (tree.applied p n xs) us h = all_keeps next k σ xs us (subst (λ ρ. Numbers ρ us) (g.applied σ p n xs) h)
