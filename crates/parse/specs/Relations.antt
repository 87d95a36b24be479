-- Relations of the code as the grammar reads them. Assumes nothing.
use Rattle.std.specs.Prelude.{◌≡◌, ℕ, List, [], ◌∷◌, Some, None, Ok, Err, Option, Result, MatchResult, refl}
use Rattle.std.proofs.Common.{subst}
use Rattle.cells.specs.declared.relations.Relation.{Relation}
use Rattle.cells.specs.declared.relations.Telling.{Telling}
use Rattle.syntax.specs.Syntax.{W, sign, Reader, ok, barred}
use Rattle.syntax.specs.Readers.{read_relation, read_telling}
use Rattle.syntax.specs.Tree as tree
use Rattle.parse.specs.declared.relations.NoRelation.{NoRelation}
use Rattle.parse.specs.declared.tree.Comparison.{Comparison}
use Rattle.parse.specs.declared.token.Sign.{Sign}
use Rattle.parse.specs.declared.token.Sign.TheVariants as is
use Rattle.parse.specs.declared.token.Lexeme.{Lexeme}
use Rattle.parse.specs.declared.token.Lexeme.TheVariants as lexeme
use Rattle.parse.specs.Tokens.{lexeme_word, sign_code}
use Rattle.parse.specs.Model.{Term, Asking, Tell, term}
use Rattle.parse.specs.Flat.{sign_relation, sign_telling, tree_relation, tree_telling, left_term, right_term}

abbrev pub asking_made : Term → Relation → Term → Asking
asking_made l c r = record { left = l; relation = c; right = r }

abbrev pub tell_made : Term → Telling → Term → Tell
tell_made l c r = record { left = l; telling = c; right = r }

abbrev pub compared_view : {R M : Type 0} → (Term → R → Term → M) → Comparison R → M
compared_view made c = made (term c.left) c.relation (term c.right)

abbrev pub compared_value : {R M X : Type 0} → (Term → R → Term → M) → (X → R) → List (List ℕ) → tree.Comparison X → M
compared_value made plain us (tree.compared l c r) = made (left_term us l) (plain c) (right_term us r)

abbrev pub IsNoSign : Lexeme → Type 0
IsNoSign (lexeme.Name n) = Unit {0}
IsNoSign (lexeme.Variable n) = Unit {0}
IsNoSign (lexeme.Number n) = Unit {0}
IsNoSign (lexeme.Weight n) = Unit {0}
IsNoSign (lexeme.Sign s) = ⊥

-- the grammar's reader takes the marks that stand for a relation, and no other word
pub record IsReader {T X E : Type 0} (gives : Sign → Result T E → Type 0) (plain : X → T) (reader : Reader X) : Type 0 where
  pub ended : reader [] ≡ barred []
  pub other : (p : ℕ) (x : Lexeme) (r : List W) → IsNoSign x → reader (lexeme_word p x ∷ r) ≡ barred (lexeme_word p x ∷ r)
  pub none : (m : Sign) (e : E) (r : List W) → gives m (Err e) → reader (sign (sign_code m) ∷ r) ≡ barred (sign (sign_code m) ∷ r)
  pub some : (m : Sign) (x : T) (r : List W) → gives m (Ok x) → (y : X) × (plain y ≡ x) × (reader (sign (sign_code m) ∷ r) ≡ ok y r)

-- what the grammar's reader makes of a mark that stands for a relation, or for none
abbrev pub WordTold : {T X : Type 0} → (X → T) → Reader X → Sign → List W → Option T → Type 0
WordTold {X = X} plain reader m r None = reader (sign (sign_code m) ∷ r) ≡ barred (sign (sign_code m) ∷ r)
WordTold {X = X} plain reader m r (Some x) = (y : X) × (plain y ≡ x) × (reader (sign (sign_code m) ∷ r) ≡ ok y r)

-- a reader of one word of some marks
module _ {T X E : Type 0} (of : Sign → Option T) (plain : X → T) (reader : Reader X) where
  pub is_reader : reader [] ≡ barred [] → ((p : ℕ) (x : Lexeme) (r : List W) → IsNoSign x → reader (lexeme_word p x ∷ r) ≡ barred (lexeme_word p x ∷ r)) → ((m : Sign) (r : List W) → WordTold plain reader m r (of m)) → IsReader {E = E} (λ m r. MatchResult r (λ x. of m ≡ Some x) (λ _. of m ≡ None)) plain reader
  is_reader ended other word = record {
    ended = ended;
    other = other;
    none = λ m e r h. subst (WordTold plain reader m r) h (word m r);
    some = λ m x r h. subst (WordTold plain reader m r) h (word m r);
  }

relation_other : (p : ℕ) (x : Lexeme) (r : List W) → IsNoSign x → read_relation (lexeme_word p x ∷ r) ≡ barred (lexeme_word p x ∷ r)
relation_other p (lexeme.Name n) r h = refl
relation_other p (lexeme.Variable n) r h = refl
relation_other p (lexeme.Number n) r h = refl
relation_other p (lexeme.Weight n) r h = refl
relation_other p (lexeme.Sign s) r h = absurd h

relation_word : (m : Sign) (r : List W) → WordTold tree_relation read_relation m r (sign_relation m)
relation_word is.At r = refl
relation_word is.Comma r = refl
relation_word is.Dot r = refl
relation_word is.Semicolon r = refl
relation_word is.Bar r = refl
relation_word is.Backslash r = refl
relation_word is.Open r = refl
relation_word is.Close r = refl
relation_word is.Plus r = refl
relation_word is.Minus r = refl
relation_word is.Colon r = refl
relation_word is.Hash r = refl
relation_word is.Ask r = refl
relation_word is.Less r = (tree.is_less, refl, refl)
relation_word is.AtMost r = (tree.is_at_most, refl, refl)
relation_word is.Equal r = (tree.is_equal, refl, refl)
relation_word is.AtLeast r = (tree.is_at_least, refl, refl)
relation_word is.Greater r = (tree.is_greater, refl, refl)
relation_word is.Different r = (tree.is_different, refl, refl)
relation_word is.Simplify r = refl
relation_word is.SimplifyGuarded r = refl
relation_word is.Propagate r = refl
relation_word is.PropagateGuarded r = refl
relation_word is.True r = refl
relation_word is.Fail r = refl

pub relation_reader : IsReader {E = NoRelation} (λ m r. MatchResult r (λ x. sign_relation m ≡ Some x) (λ _. sign_relation m ≡ None)) tree_relation read_relation
relation_reader = is_reader sign_relation tree_relation read_relation refl relation_other relation_word

telling_other : (p : ℕ) (x : Lexeme) (r : List W) → IsNoSign x → read_telling (lexeme_word p x ∷ r) ≡ barred (lexeme_word p x ∷ r)
telling_other p (lexeme.Name n) r h = refl
telling_other p (lexeme.Variable n) r h = refl
telling_other p (lexeme.Number n) r h = refl
telling_other p (lexeme.Weight n) r h = refl
telling_other p (lexeme.Sign s) r h = absurd h

telling_word : (m : Sign) (r : List W) → WordTold tree_telling read_telling m r (sign_telling m)
telling_word is.At r = refl
telling_word is.Comma r = refl
telling_word is.Dot r = refl
telling_word is.Semicolon r = refl
telling_word is.Bar r = refl
telling_word is.Backslash r = refl
telling_word is.Open r = refl
telling_word is.Close r = refl
telling_word is.Plus r = refl
telling_word is.Minus r = refl
telling_word is.Colon r = refl
telling_word is.Hash r = refl
telling_word is.Ask r = refl
telling_word is.Less r = (tree.tells_less, refl, refl)
telling_word is.AtMost r = (tree.tells_at_most, refl, refl)
telling_word is.Equal r = (tree.tells_equal, refl, refl)
telling_word is.AtLeast r = (tree.tells_at_least, refl, refl)
telling_word is.Greater r = (tree.tells_greater, refl, refl)
telling_word is.Different r = refl
telling_word is.Simplify r = refl
telling_word is.SimplifyGuarded r = refl
telling_word is.Propagate r = refl
telling_word is.PropagateGuarded r = refl
telling_word is.True r = refl
telling_word is.Fail r = refl

pub telling_reader : IsReader {E = NoRelation} (λ m r. MatchResult r (λ x. sign_telling m ≡ Some x) (λ _. sign_telling m ≡ None)) tree_telling read_telling
telling_reader = is_reader sign_telling tree_telling read_telling refl telling_other telling_word
