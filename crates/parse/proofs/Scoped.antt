-- Parts behind the arrow and of goals, where no variable is new. Assumes nothing.
use Rattle.std.proofs.Common.{◌≡◌, ℕ, List, [], ◌∷◌, map, refl, ap, ◌∙◌, subst}
use Rattle.syntax.specs.Parts.{Some}
use Rattle.syntax.specs.Grammar.{joins, same, next_left, next_all}
use Rattle.syntax.specs.Tree as tree
use Rattle.parse.specs.declared.scope.Scope.{Scope as Scope'}
use Rattle.parse.specs.declared.scope.Scope.TheVariants.{Rule, Goal}
use Rattle.parse.specs.Facts.{same_all}
use Rattle.parse.specs.Flat.{asking_of, tell_of, tree_relation, tree_telling}
use Rattle.parse.specs.Relations.{compared_value, asking_made, tell_made}
use Rattle.parse.specs.Rows.{row_value}
use Rattle.parse.specs.Scopes.{scope, scope_variables, Numbers}

-- no variable joins a scope
pub joins_scope : (s : Scope') (v : List ℕ) → joins (scope s) v ≡ scope s
joins_scope (Rule ns) v = refl
joins_scope Goal v = refl

-- the names of a scope have their numbers in no other table
pub numbers_only : (s : Scope') (us : List (List ℕ)) → Numbers (scope s) us → us ≡ scope_variables s
numbers_only (Rule ns) us h = h
numbers_only Goal us h = h

-- and they have them in the scope's
pub numbers_here : (s : Scope') → Numbers (scope s) (scope_variables s)
numbers_here (Rule ns) = refl
numbers_here Goal = refl

pub left_scope : (s : Scope') (y : tree.Left) → next_left (scope s) y ≡ scope s
left_scope s (tree.number n) = refl
left_scope s (tree.cell k) = refl
left_scope s (tree.variable v) = joins_scope s v

-- a row of parts that no variable joins
pub row_here : {X M : Type 0} (value : List (List ℕ) → X → M) (s t : Scope') (ys : Some X) → next_all same (scope s) ys ≡ scope t → {ms : List M} → ((us : List (List ℕ)) → Numbers (scope t) us → row_value value us ys ≡ ms) → row_value value (scope_variables s) ys ≡ ms
row_here value s t ys e comes = comes (scope_variables s) (subst (λ ρ. Numbers ρ (scope_variables s)) (same_all (scope s) ys ∙ e) (numbers_here s))

pub asked : (vs : List (List ℕ)) (ys : List (tree.Comparison tree.Relation)) → map (asking_of vs) ys ≡ map (compared_value asking_made tree_relation vs) ys
asked vs [] = refl
asked vs (tree.compared l c r ∷ ys) = ap (λ t. asking_of vs (tree.compared l c r) ∷ t) (asked vs ys)

pub telling_told : (vs : List (List ℕ)) (y : tree.Comparison tree.Telling) → tell_of vs y ≡ compared_value tell_made tree_telling vs y
telling_told vs (tree.compared l c r) = refl
