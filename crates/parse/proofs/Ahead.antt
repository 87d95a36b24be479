-- Variables and rules' names, by the word ahead. Assumes nothing.
use Rattle.std.proofs.Common.{◌≡◌, ℕ, suc, ◌<◌, ◌≤◌, Bool, true, false, cond, ◌||◌, eqb, ltb, List, [], ◌∷◌, ◌++◌, length, Some, vec_len, sym, refl, ap, ◌∙◌, subst, Bor}
use Rattle.std.proofs.lemmas.Bool.{false≢true, cond-true, cond-false, lt-ltb, le-ltb}
use Rattle.std.proofs.lemmas.List.{length-map}
use Rattle.syntax.specs.Syntax.{W, name, var, sign, kind, mem, fine, flaw, noted, ok}
use Rattle.syntax.specs.Grammar.{Scope, binding, bound, var_note, among, joined, joins, same_name, label_name, true_name, fail_name}
use Rattle.syntax.specs.Readers.{read_variable, read_label, first_rule, label_value}
use Rattle.syntax.specs.Tree.{Label, named, named_true, named_fail}
use Rattle.syntax.specs.Marks.{true_word}
use Rattle.words.specs.declared.name.Name.{Name}
use Rattle.words.specs.Names.{name_bytes}
use Rattle.parse.specs.declared.token.Lexeme.{Lexeme}
use Rattle.parse.specs.declared.token.Lexeme.TheVariants as lexeme
use Rattle.parse.specs.declared.token.Token.{Token}
use Rattle.parse.specs.Tokens.{token_word, lexeme_word, sign_code}
use Rattle.parse.specs.declared.scope.Names.{Names}
use Rattle.parse.specs.declared.scope.Scope.{Scope as Scope'}
use Rattle.parse.specs.declared.scope.Scope.TheVariants.{Rule}
use Rattle.parse.specs.Scopes.{variables, scope, scope_variables, Labels, Numbers}
use Rattle.parse.specs.Flat.{index_of}
use Rattle.parse.proofs.Names.{same_refl}
use Rattle.parse.proofs.Scoped.{joins_scope, numbers_only}

-- the word of a token whose lexeme is known
pub at_lexeme : (l r : List W) (t : Token) (x : Lexeme) → l ≡ token_word t ∷ r → t.lexeme ≡ x → l ≡ lexeme_word t.place x ∷ r
at_lexeme l r t x e s = e ∙ ap (λ y. lexeme_word t.place y ∷ r) s

pub var_fine : (σ : Scope) (l r : List W) (v : List ℕ) → l ≡ var v ∷ r → var_note σ v ≡ fine → read_variable σ l ≡ ok v r
var_fine σ l r v e n = ap (read_variable σ) e ∙ ap (λ m. noted m v (var v) r) n

pub bound_known : (vs : List (List ℕ)) (v : List ℕ) → among vs v ≡ true → var_note (bound vs) v ≡ fine
bound_known vs v h = cond-true (among vs v) _ _ h

pub binding_known : (vs : List (List ℕ)) (v : List ℕ) → among vs v ≡ true → var_note (binding vs) v ≡ fine
binding_known vs v h = cond-true (among vs v) _ _ h

pub binding_new : (vs : List (List ℕ)) (v : List ℕ) → among vs v ≡ false → length vs < 6 → var_note (binding vs) v ≡ fine
binding_new vs v h k = cond-false (among vs v) _ _ h ∙ cond-true (ltb (length vs) 6) _ _ (lt-ltb (length vs) 6 k)

pub binding_over : (vs : List (List ℕ)) (v : List ℕ) → among vs v ≡ false → 6 ≤ length vs → var_note (binding vs) v ≡ flaw 5
binding_over vs v h k = cond-false (among vs v) _ _ h ∙ cond-false (ltb (length vs) 6) _ _ (le-ltb (length vs) 6 k)

-- the number of a variable stays as others join
pub index_kept : (vs more : List (List ℕ)) (v : List ℕ) → among vs v ≡ true → index_of (vs ++ more) v ≡ index_of vs v
index_kept [] more v h = absurd (false≢true h)
index_kept (x ∷ vs) more v h = go (same_name x v) h (index_kept vs more v)
  where
    go : (t : Bool) → t || among vs v ≡ true → (among vs v ≡ true → index_of (vs ++ more) v ≡ index_of vs v) → cond t 0 (suc (index_of (vs ++ more) v)) ≡ cond t 0 (suc (index_of vs v))
    go true h rec = refl
    go false h rec = ap suc (rec h)

pub index_new : (vs more : List (List ℕ)) (v : List ℕ) → among vs v ≡ false → index_of ((vs ++ v ∷ []) ++ more) v ≡ length vs
index_new [] more v h = cond-true (same_name v v) _ _ (same_refl v)
index_new (x ∷ vs) more v h = go (same_name x v) h (index_new vs more v)
  where
    go : (t : Bool) → t || among vs v ≡ false → (among vs v ≡ false → index_of ((vs ++ v ∷ []) ++ more) v ≡ length vs) → cond t 0 (suc (index_of ((vs ++ v ∷ []) ++ more) v)) ≡ suc (length vs)
    go true h rec = absurd (false≢true (sym h))
    go false h rec = ap suc (rec h)

pub joined_known : (vs : List (List ℕ)) (v : List ℕ) → among vs v ≡ true → joined vs v ≡ vs
joined_known vs v h = cond-true (among vs v) _ _ h

pub joined_new : (vs : List (List ℕ)) (v : List ℕ) → among vs v ≡ false → joined vs v ≡ vs ++ v ∷ []
joined_new vs v h = cond-false (among vs v) _ _ h

-- a new name joins where there is room
pub joins_known : (vs : List (List ℕ)) (v : List ℕ) (i : ℕ) → among vs v ≡ true → index_of vs v ≡ i → (var_note (binding vs) v ≡ fine) × (vs ≡ joined vs v) × ((more : List (List ℕ)) → index_of (vs ++ more) v ≡ i)
joins_known vs v i h e = (binding_known vs v h, sym (joined_known vs v h), λ more. index_kept vs more v h ∙ e)

pub joins_new : (vs us : List (List ℕ)) (v : List ℕ) (n : ℕ) → among vs v ≡ false → n < 6 → n ≡ length vs → us ≡ vs ++ v ∷ [] → (var_note (binding vs) v ≡ fine) × (us ≡ joined vs v) × ((more : List (List ℕ)) → index_of (us ++ more) v ≡ n)
joins_new vs us v n h k s e =
    (binding_new vs v h (subst (λ m. m < 6) s k), e ∙ sym (joined_new vs v h), λ more. ap (λ l. index_of (l ++ more) v) e ∙ index_new vs more v h ∙ sym s)

-- a table's length is that of its names
pub variables_length : (ns : Names) → length (variables ns) ≡ vec_len ns.list
variables_length ns = rw length-map (sym ns.list.ok.0)

-- a variable that a rule's scope knows
pub variable_known : (s : Scope') (ns : Bor Names) → s ≡ Rule ns → (l r : List W) (v : List ℕ) (i : ℕ) → l ≡ var v ∷ r → among (variables ns.now) v ≡ true → index_of (variables ns.now) v ≡ i → (x : List ℕ) × ((joins (scope s) x ≡ scope s) × ((us : List (List ℕ)) → Numbers (scope s) us → index_of us x ≡ i)) × (read_variable (scope s) l ≡ ok x r)
variable_known s ns q l r v i e h k =
    (v, (joins_scope s v, λ us m. ap (λ t. index_of t v) (numbers_only s us m) ∙ ap (λ t. index_of (scope_variables t) v) q ∙ k), ap (λ t. read_variable (scope t) l) q ∙ var_fine (bound (variables ns.now)) l r v e (bound_known (variables ns.now) v h))

-- a rule's name that no rule before has
pub label_fresh : (ns : List (List ℕ)) (l r : List W) (p : ℕ) (x : Lexeme) (n : Name) → l ≡ lexeme_word p x ∷ r → Labels x (Some n) → among ns (name_bytes n) ≡ false → (y : Label) × (label_name y ≡ name_bytes n) × (read_label ns l ≡ ok y r)
label_fresh ns l r p (lexeme.Name m) n e (k, s) h = (named p (name_bytes m), s, ap (read_label ns) e ∙ ap (λ t. noted (cond (among ns t) (flaw 7) fine) (named p (name_bytes m)) (name p (name_bytes m)) r) s ∙ ap (λ t. noted (cond t (flaw 7) fine) (named p (name_bytes m)) (name p (name_bytes m)) r) h)
label_fresh ns l r p (lexeme.Variable m) n e (k, s) h = absurd (false≢true k)
label_fresh ns l r p (lexeme.Number m) n e (k, s) h = absurd (false≢true k)
label_fresh ns l r p (lexeme.Weight m) n e (k, s) h = absurd (false≢true k)
label_fresh ns l r p (lexeme.Sign m) n e (k, s) h = (label_value (sign (sign_code m)), go (eqb (sign_code m) true_word) ∙ s, ap (read_label ns) e ∙ cond-true (mem first_rule (kind (sign (sign_code m)))) _ _ k ∙ ap (λ t. noted (cond (among ns t) (flaw 7) fine) (label_value (sign (sign_code m))) (sign (sign_code m)) r) s ∙ ap (λ t. noted (cond t (flaw 7) fine) (label_value (sign (sign_code m))) (sign (sign_code m)) r) h)
  where
    go : (t : Bool) → label_name (cond t named_true named_fail) ≡ cond t true_name fail_name
    go true = refl
    go false = refl
