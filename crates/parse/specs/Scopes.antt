-- The code's scopes as the grammar's. Assumes nothing.
use Rattle.std.specs.Prelude.{◌≡◌, ℕ, ◌<◌, true, false, List, [], ◌++◌, length, Some, None, Ok, Err, vec_items, Option, Result}
use Rattle.words.specs.declared.name.Name.{Name}
use Rattle.words.specs.Names.{name_bytes}
use Rattle.syntax.specs.Syntax.{mem, fine, flaw}
use Rattle.syntax.specs.Grammar as grammar
use Rattle.parse.specs.declared.number.Variable.{Variable}
use Rattle.parse.specs.declared.scope.Names.{Names}
use Rattle.parse.specs.declared.scope.Scope.{Scope}
use Rattle.parse.specs.declared.scope.Scope.TheVariants.{Rule, Goal}
use Rattle.syntax.specs.Readers.{first_rule}
use Rattle.syntax.specs.Grammar.{spelling}
use Rattle.parse.specs.declared.token.Lexeme.{Lexeme}
use Rattle.parse.specs.Tokens.{lexeme_kind, lexeme_word}
use Rattle.parse.specs.Flat.{spelled, index_of}

-- the names of a rule's variables
abbrev pub variables : Names → List (List ℕ)
variables ns = spelled (vec_items ns.list)

abbrev pub scope_variables : Scope → List (List ℕ)
scope_variables (Rule ns) = variables ns.now
scope_variables Goal = []

abbrev pub scope : Scope → grammar.Scope
scope (Rule ns) = grammar.bound (variables ns.now)
scope Goal = grammar.closed

-- the variables of a scope of the grammar
abbrev pub scope_names : grammar.Scope → List (List ℕ)
scope_names (grammar.binding vs) = vs
scope_names (grammar.bound vs) = vs
scope_names grammar.closed = []

-- where a name stands first among others, or none where it does not
abbrev pub Found : List (List ℕ) → List ℕ → Option ℕ → Type 0
Found vs v None = grammar.among vs v ≡ false
Found vs v (Some i) = (i < length vs) × (grammar.among vs v ≡ true) × (index_of vs v ≡ i)

abbrev pub Known : List (List ℕ) → List ℕ → Option Variable → Type 0
Known vs v None = grammar.among vs v ≡ false
Known vs v (Some i) = (grammar.among vs v ≡ true) × (index_of vs v ≡ i.index)

-- a name was looked up among a rule's variables, and joined them if it was new; there is none where it would be one too many
abbrev pub Joins : {E : Type 0} → List (List ℕ) → List ℕ → Result (Option Variable) E → List (List ℕ) → Type 0
Joins vs v (Ok None) us = grammar.var_note (grammar.binding vs) v ≡ flaw 5
Joins vs v (Ok (Some i)) us = (grammar.var_note (grammar.binding vs) v ≡ fine) × (us ≡ grammar.joined vs v) × ((more : List (List ℕ)) → index_of (us ++ more) v ≡ i.index)
Joins vs v (Err e) us = Unit {0}

-- the tables in which the names of a scope have the numbers that they have in it: behind those of the heads others may join
abbrev pub Numbers : grammar.Scope → List (List ℕ) → Type 0
Numbers (grammar.binding vs) us = (more : List (List ℕ)) × (us ≡ vs ++ more)
Numbers (grammar.bound vs) us = us ≡ vs
Numbers grammar.closed us = us ≡ []

-- the names that a scope has keep their numbers as others join
abbrev pub Keeps : {X : Type 0} → (grammar.Scope → X → grammar.Scope) → Type 0
Keeps {X = X} next = (σ : grammar.Scope) (y : X) (us : List (List ℕ)) → Numbers (next σ y) us → Numbers σ us

-- what was read is what the tree comes to, as the scope σ grew to τ
abbrev pub Grown : {T M X : Type 0} → (T → M) → (List (List ℕ) → X → M) → (grammar.Scope → X → grammar.Scope) → grammar.Scope → grammar.Scope → T → X → Type 0
Grown view flat next σ τ x y = (next σ y ≡ τ) × ((us : List (List ℕ)) → Numbers τ us → flat us y ≡ view x)

-- the name that a word gives to a rule, or none where it is no such word
abbrev pub Labels : Lexeme → Option Name → Type 0
Labels l None = mem first_rule (lexeme_kind l) ≡ false
Labels l (Some n) = (mem first_rule (lexeme_kind l) ≡ true) × (spelling (lexeme_word 0 l) ≡ name_bytes n)
