-- Values of terms, facts that match heads, guards, and the combination of facts that fires a rule.
use Rattle.std.specs.Prelude.{ℕ, suc, Bool, true, false, not, ◌&&◌, ◌||◌, List, [], ◌∷◌, ◌++◌, length, replicate, ℤ, pos, ◌+ℤ◌, Some, None, Option, ◌==◌, nat_eq, nat_lt, slice_index, slice_index_or, slice_set}
use Rattle.cells.specs.declared.relations.Relation.{Relation}
use Rattle.cells.specs.declared.relations.Relation.TheVariants as relation
use Rattle.cells.specs.Relations.{holds}
use Rattle.parse.specs.Model.{Term, Asking}
use Rattle.parse.specs.Model as term
use Rattle.steps.specs.Program.{Pattern, Rule}
use Rattle.steps.specs.State.{Kind, Value, number, cell, Fact, Stored, Bindings, Firing, State}

-- a cell equals only itself, and never a number
abbrev pub same_value : Value → Value → Bool
same_value (number a) (number b) = holds relation.Equal a b
same_value (number a) (cell j) = false
same_value (cell i) (number b) = false
same_value (cell i) (cell j) = i == j

-- no variable has a value; a rule has at most 6
abbrev pub unbound : Bindings
unbound = replicate 6 None

-- the value of a variable; a book has none without one in its guards and bodies
abbrev pub value_or_0 : Option Value → Value
value_or_0 None = number (pos 0)
value_or_0 (Some v) = v

abbrev pub bound : Bindings → ℕ → Value
bound bs i = value_or_0 (slice_index_or bs i None)

-- a value with a number added; none if it is a cell
abbrev pub plus : Value → ℤ → Option Value
plus (number m) n = Some (number (m +ℤ n))
plus (cell k) n = None

-- the value of a term; none for a sum with a cell
abbrev pub value_of : Bindings → Term → Option Value
value_of bs (term.number n) = Some (number n)
value_of bs (term.cell k) = Some (cell k)
value_of bs (term.variable i) = Some (bound bs i)
value_of bs (term.sum i n) = plus (bound bs i) n

-- these bindings, if the test is passed
abbrev pub given : {X : Type 0} → Bool → X → Option X
given true x = Some x
given false x = None

-- a head's argument against a fact's: equal, or a variable that takes the value; no head has a sum
abbrev pub match_term : Bindings → Term → Value → Option Bindings
match_term bs (term.number n) v = given (same_value (number n) v) bs
match_term bs (term.cell k) v = given (same_value (cell k) v) bs
match_term bs (term.variable i) v = elim (slice_index_or bs i None) [ None ↦ Some (slice_set bs i (Some v)) | Some w ↦ given (same_value w v) bs ]
match_term bs (term.sum i n) v = None

-- all arguments, from left to right
abbrev pub match_terms : Bindings → List Term → List Value → Option Bindings
match_terms bs [] [] = Some bs
match_terms bs [] (v ∷ vs) = None
match_terms bs (t ∷ ts) [] = None
match_terms bs (t ∷ ts) (v ∷ vs) = elim (match_term bs t v) [ None ↦ None | Some cs ↦ match_terms cs ts vs ]

-- a head against a fact: the same predicate, and its arguments
abbrev pub match_head : Bindings → Pattern → Fact → Option Bindings
match_head bs p f = elim (p.predicate == f.predicate) [ true ↦ match_terms bs p.arguments f.arguments | false ↦ None ]

-- whether a value satisfies: a number itself, a cell if each of its members does
abbrev pub satisfies : Kind → List ℕ → Value → Relation → ℤ → Bool
satisfies K cells (number m) r n = holds r m n
satisfies K cells (cell k) r n = K.asked (slice_index cells k) r n

-- a comparison of a guard, its sides valued: it is not true with a cell as the value on its right or in a sum
abbrev pub compares : Kind → List ℕ → Option Value → Relation → Option Value → Bool
compares K cells None r right = false
compares K cells (Some l) r None = false
compares K cells (Some l) r (Some (cell k)) = false
compares K cells (Some l) r (Some (number n)) = satisfies K cells l r n

-- whether all comparisons of a guard are true
abbrev pub guard_true : Kind → List ℕ → Bindings → List Asking → Bool
guard_true K cells bs [] = true
guard_true K cells bs (a ∷ as') = compares K cells (value_of bs a.left) a.relation (value_of bs a.right) && guard_true K cells bs as'

-- facts for the heads of a rule: their identifiers, heads in the order written, and the values that the variables get
pub record Combination : Type 0 where
  pub identifiers : List ℕ
  pub bindings : Bindings

abbrev pub among : ℕ → List ℕ → Bool
among i [] = false
among i (j ∷ js) = i == j || among i js

abbrev pub same_identifiers : List ℕ → List ℕ → Bool
same_identifiers [] [] = true
same_identifiers [] (j ∷ js) = false
same_identifiers (i ∷ is) [] = false
same_identifiers (i ∷ is) (j ∷ js) = i == j && same_identifiers is js

-- whether the history has the rule with these identifiers
abbrev pub has_fired : List Firing → ℕ → List ℕ → Bool
has_fired [] r is = false
has_fired (f ∷ fs) r is = (r == f.rule && same_identifiers is f.identifiers) || has_fired fs r is

-- whether a rule removes something: not all its heads are kept
abbrev pub removes : Rule → Bool
removes x = nat_lt x.kept (length x.heads)

-- whether rule x of number r may fire: its guard is true; and if it removes nothing, it has not fired with these facts
abbrev pub may_fire : Kind → State → ℕ → Rule → Combination → Bool
may_fire K s r x c = guard_true K s.cells c.bindings x.guard && (removes x || not (has_fired s.history r c.identifiers))

-- whether a fact of this identifier may stand at head h: the active fact at its own head and at no other, and no fact at two heads
abbrev pub may_stand : ℕ → ℕ → ℕ → List ℕ → ℕ → Bool
may_stand act place h taken i = elim (h == place) [ true ↦ nat_eq i act | false ↦ not (i == act) && not (among i taken) ]

-- a combination with one fact more
abbrev pub joined : Combination → ℕ → Option Bindings → Option Combination
joined c i None = None
joined c i (Some bs) = Some (record { identifiers = c.identifiers ++ (i ∷ []); bindings = bs })

-- a stored fact at head h, after those of the heads before it
abbrev pub with_fact : ℕ → ℕ → ℕ → Pattern → Combination → Stored → Option Combination
with_fact act place h p c f = elim (may_stand act place h c.identifiers f.identifier) [ true ↦ joined c f.identifier (match_head c.bindings p f.fact) | false ↦ None ]

-- what the first that gives something gives
abbrev pub first_given : {X Y : Type 0} → (X → Option Y) → List X → Option Y
first_given f [] = None
first_given f (x ∷ xs) = elim (f x) [ None ↦ first_given f xs | Some y ↦ Some y ]

-- the first good combination that goes on from c with facts for the heads from h on: each head over the store by rising identifier, so that
-- it is the first in dictionary order
abbrev pub seek : (Combination → Bool) → List Stored → ℕ → ℕ → ℕ → List Pattern → Combination → Option Combination
seek good store act place h [] c = given (good c) c
seek good store act place h (p ∷ ps) c = first_given (λ f. elim (with_fact act place h p c f) [ None ↦ None | Some d ↦ seek good store act place (suc h) ps d ]) store

-- the combination that fires rule x of number r, with the active fact of this identifier at a head's place
abbrev pub combination : Kind → State → ℕ → Rule → ℕ → ℕ → Option Combination
combination K s r x place act = seek (may_fire K s r x) s.store act place 0 x.heads (record { identifiers = []; bindings = unbound })
