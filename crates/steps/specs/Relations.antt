-- When a rule applies, as relations: facts match heads, guards follow from the members of cells, and a combination is the first.
use Rattle.std.specs.Prelude.{◌≡◌, ℕ, ◌<◌, ◌≤◌, true, List, [], ◌∷◌, map, length, ℤ, pos, negsuc, ◌+ℤ◌, ◌≤ℤ◌, Some, None, slice_index, slice_index_or}
use Rattle.cells.specs.Relations.{holds}
use Rattle.parse.specs.Model.{Term, Asking}
use Rattle.parse.specs.Model as term
use Rattle.steps.specs.Program.{Pattern, Item, add, tell, fail, Rule}
use Rattle.steps.specs.State.{Kind, Value, number, cell, Stored, Bindings, Entry, to_add, to_tell, to_fail, State, Cause, cell_for_number, number_too_large}
use Rattle.steps.specs.Matching.{bound}

-- x is an element of the list
pub data In {X : Type 0} (x : X) : List X → Type 0 where
  here : {xs : List X} → In x (x ∷ xs)
  there : {y : X} {xs : List X} → In x xs → In x (y ∷ xs)

-- every element is so
pub data Every {X : Type 0} (Q : X → Type 0) : List X → Type 0 where
  every_none : Every Q []
  every_more : {x : X} {xs : List X} → Q x → Every Q xs → Every Q (x ∷ xs)

-- two lists of one length, related element by element
pub data Each {X Y : Type 0} (R : X → Y → Type 0) : List X → List Y → Type 0 where
  each_none : Each R [] []
  each_more : {x : X} {y : Y} {xs : List X} {ys : List Y} → R x y → Each R xs ys → Each R (x ∷ xs) (y ∷ ys)

-- from left to right the elements have results, up to one that breaks
pub data Breaks {X Y : Type 0} (Gives : X → Y → Type 0) (Bad : X → Cause → Type 0) : List X → Cause → Type 0 where
  breaks_here : {x : X} {xs : List X} {c : Cause} → Bad x c → Breaks Gives Bad (x ∷ xs) c
  breaks_later : {x : X} {y : Y} {xs : List X} {c : Cause} → Gives x y → Breaks Gives Bad xs c → Breaks Gives Bad (x ∷ xs) c

-- a head's argument fits a fact's: the same number, the same cell, or a variable with that value
pub data Fits (θ : Bindings) : Term → Value → Type 0 where
  same_number : (n : ℤ) → Fits θ (term.number n) (number n)
  same_cell : (k : ℕ) → Fits θ (term.cell k) (cell k)
  has_value : (i : ℕ) (v : Value) → slice_index_or θ i None ≡ Some v → Fits θ (term.variable i) v

-- a head matches a fact: the same predicate, and each argument fits
pub record Matches (θ : Bindings) (p : Pattern) (f : Stored) : Type 0 where
  pub predicate : p.predicate ≡ f.fact.predicate
  pub arguments : Each (Fits θ) p.arguments f.fact.arguments

-- what a term stands for; a sum with a cell stands for nothing
pub data Means (θ : Bindings) : Term → Value → Type 0 where
  as_number : (n : ℤ) → Means θ (term.number n) (number n)
  as_cell : (k : ℕ) → Means θ (term.cell k) (cell k)
  as_variable : (i : ℕ) (v : Value) → bound θ i ≡ v → Means θ (term.variable i) v
  as_sum : (i : ℕ) (m n : ℤ) → bound θ i ≡ number m → Means θ (term.sum i n) (number (m +ℤ n))

-- the numbers that a value may be: itself, or the members of the cell
pub data MayBe (K : Kind) (cells : List ℕ) : Value → ℤ → Type 0 where
  itself : (n : ℤ) → MayBe K cells (number n) n
  a_member : (k : ℕ) (n : ℤ) → K.member (slice_index cells k) n ≡ true → MayBe K cells (cell k) n

-- a comparison of a guard is entailed: its right side is a number, and all that the left side may be satisfies
pub record Entailed (K : Kind) (cells : List ℕ) (θ : Bindings) (a : Asking) : Type 0 where
  pub value : Value
  pub limit : ℤ
  pub left : Means θ a.left value
  pub right : Means θ a.right (number limit)
  pub satisfied : (m : ℤ) → MayBe K cells value m → holds a.relation m limit ≡ true

-- no two are equal
pub data Distinct : List ℕ → Type 0 where
  distinct_none : Distinct []
  distinct_more : {i : ℕ} {is : List ℕ} → (In i is → ⊥) → Distinct is → Distinct (i ∷ is)

-- the variables of heads
abbrev pub InHeads : ℕ → List Pattern → Type 0
InHeads i ps = (p : Pattern) × In p ps × In (term.variable i) p.arguments

-- exactly the variables of the heads, which are among 6, have values
pub record Binds (ps : List Pattern) (θ : Bindings) : Type 0 where
  pub six : length θ ≡ 6
  pub only : (i : ℕ) (v : Value) → slice_index_or θ i None ≡ Some v → InHeads i ps

abbrev pub identifiers : List Stored → List ℕ
identifiers fs = map (λ f. f.identifier) fs

-- facts for the heads of rule x of number r, the active fact at a head's place: present and distinct, matching, the guard entailed, and for a
-- rule that removes nothing not in the history
pub record Combines (K : Kind) (s : State) (r : ℕ) (x : Rule) (place act : ℕ) (θ : Bindings) (fs : List Stored) : Type 0 where
  pub present : Every (λ f. In f s.store) fs
  pub distinct : Distinct (identifiers fs)
  pub fixed : (place < length fs) × (slice_index (identifiers fs) place ≡ act)
  pub binds : Binds x.heads θ
  pub matches : Each (Matches θ) x.heads fs
  pub guard : Every (Entailed K s.cells θ) x.guard
  pub fresh : length x.heads ≤ x.kept → In (record { rule = r; identifiers = identifiers fs }) s.history → ⊥

-- the dictionary order
pub data Before : List ℕ → List ℕ → Type 0 where
  now : {i j : ℕ} {is js : List ℕ} → i < j → Before (i ∷ is) (j ∷ js)
  later : {i : ℕ} {is js : List ℕ} → Before is js → Before (i ∷ is) (i ∷ js)

-- the combination that fires: none comes before it
pub record Fires (K : Kind) (s : State) (r : ℕ) (x : Rule) (place act : ℕ) (θ : Bindings) (fs : List Stored) : Type 0 where
  pub combines : Combines K s r x place act θ fs
  pub first : (η : Bindings) (gs : List Stored) → Combines K s r x place act η gs → Before (identifiers gs) (identifiers fs) → ⊥

-- a number within 1,000,000,000 either way
abbrev pub Within : ℤ → Type 0
Within n = (negsuc 999999999 ≤ℤ n) × (n ≤ℤ pos 1000000000)

-- a value of a body
pub data BodyValue (θ : Bindings) : Term → Value → Type 0 where
  cell_value : {t : Term} (k : ℕ) → Means θ t (cell k) → BodyValue θ t (cell k)
  number_value : {t : Term} (n : ℤ) → Means θ t (number n) → Within n → BodyValue θ t (number n)

-- a term of a body that breaks
pub data BadValue (θ : Bindings) : Term → Cause → Type 0 where
  cell_in_sum : (i k : ℕ) (n : ℤ) → bound θ i ≡ cell k → BadValue θ (term.sum i n) cell_for_number
  beyond : {t : Term} (n : ℤ) → Means θ t (number n) → (Within n → ⊥) → BadValue θ t number_too_large

-- the entry of an item
pub data BodyEntry (θ : Bindings) : Item → Entry → Type 0 where
  adds : (p : Pattern) (vs : List Value) → Each (BodyValue θ) p.arguments vs → BodyEntry θ (add p) (to_add (record { predicate = p.predicate; arguments = vs }))
  tells : (c : term.Tell) (v : Value) (n : ℤ) → BodyValue θ c.left v → BodyValue θ c.right (number n) → BodyEntry θ (tell c) (to_tell v c.telling n)
  fails : BodyEntry θ fail to_fail

-- an item that breaks
pub data BadEntry (θ : Bindings) : Item → Cause → Type 0 where
  argument_breaks : (p : Pattern) (e : Cause) → Breaks (BodyValue θ) (BadValue θ) p.arguments e → BadEntry θ (add p) e
  left_breaks : (c : term.Tell) (e : Cause) → BadValue θ c.left e → BadEntry θ (tell c) e
  right_breaks : (c : term.Tell) (v : Value) (e : Cause) → BodyValue θ c.left v → BadValue θ c.right e → BadEntry θ (tell c) e
  right_is_cell : (c : term.Tell) (v : Value) (k : ℕ) → BodyValue θ c.left v → BodyValue θ c.right (cell k) → BadEntry θ (tell c) cell_for_number
