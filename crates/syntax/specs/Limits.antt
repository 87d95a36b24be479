-- What a book or goal without a fault keeps, said of its tree alone. Assumes nothing.
use Rattle.std.specs.Prelude.{◌≡◌, ℕ, ◌+◌, ◌≤◌, ◌⊎◌, List, [], ◌∷◌, ◌++◌, length}
use Rattle.syntax.specs.Parts.{Some, last, more}
use Rattle.syntax.specs.Tree.{Left, number, cell, variable, Right, fixed, summed, Argument, held, valued, Fact, bare, applied, Comparison, compared, Item, added, told, failing, Content, nil, items, Alternative, plainly, weighted, Guard, none, guarded, Arrow, propagating, simplifying, simpagating, Rule, rule}
use Rattle.syntax.specs.Grammar.{count, label_name}

-- a name stands in a list
abbrev pub In : List ℕ → List (List ℕ) → Type 0
In v [] = ⊥
In v (n ∷ ns) = (n ≡ v) ⊎ In v ns

-- every name of the first list stands in the second
abbrev pub Within : List (List ℕ) → List (List ℕ) → Type 0
Within [] ms = Unit {0}
Within (n ∷ ns) ms = In n ms × Within ns ms

-- no name stands twice
abbrev pub Differ : List (List ℕ) → Type 0
Differ [] = Unit {0}
Differ (n ∷ ns) = (In n ns → ⊥) × Differ ns

abbrev pub Each : {X : Type 0} → (X → Type 0) → Some X → Type 0
Each P (last x) = P x
Each P (more x xs) = P x × Each P xs

-- all at most so many, and each as it should be
abbrev pub AtMost : {X : Type 0} → ℕ → (X → Type 0) → Some X → Type 0
AtMost k P xs = (count xs ≤ k) × Each P xs

abbrev pub gathered : {X : Type 0} → (X → List (List ℕ)) → Some X → List (List ℕ)
gathered f (last x) = f x
gathered f (more x xs) = f x ++ gathered f xs

-- the variables of heads, as they come
abbrev pub left_variables : Left → List (List ℕ)
left_variables (number n) = []
left_variables (cell k) = []
left_variables (variable v) = v ∷ []

abbrev pub head_variables : Fact Left → List (List ℕ)
head_variables (bare p n) = []
head_variables (applied p n xs) = gathered left_variables xs

abbrev pub arrow_variables : Arrow → List (List ℕ)
arrow_variables (propagating g) = []
arrow_variables (simplifying g) = []
arrow_variables (simpagating rs g) = gathered head_variables rs

abbrev pub rule_variables : Some (Fact Left) → Arrow → List (List ℕ)
rule_variables hs a = gathered head_variables hs ++ arrow_variables a

-- cells are 0 to 31; `known` tells which variables may stand there
module _ (known : List ℕ → Type 0) where
  abbrev pub LeftKept : Left → Type 0
  LeftKept (number n) = Unit {0}
  LeftKept (cell k) = k ≤ 31
  LeftKept (variable v) = known v

  abbrev pub RightKept : Right → Type 0
  RightKept (fixed n) = Unit {0}
  RightKept (summed v s) = known v

  abbrev pub ArgumentKept : Argument → Type 0
  ArgumentKept (held k) = k ≤ 31
  ArgumentKept (valued r) = RightKept r

  abbrev pub ComparisonKept : {R : Type 0} → Comparison R → Type 0
  ComparisonKept (compared l c r) = LeftKept l × RightKept r

-- a fact has at most 3 arguments
abbrev pub FactKept : {A : Type 0} → (A → Type 0) → Fact A → Type 0
FactKept P (bare p n) = Unit {0}
FactKept P (applied p n xs) = AtMost 3 P xs

module _ (known : List ℕ → Type 0) where
  abbrev pub ItemKept : Item → Type 0
  ItemKept (added f) = FactKept (ArgumentKept known) f
  ItemKept (told c) = ComparisonKept known c
  ItemKept failing = Unit {0}

  abbrev pub ContentKept : ℕ → Content → Type 0
  ContentKept most nil = Unit {0}
  ContentKept most (items is) = AtMost most ItemKept is

  -- an alternative has at most 8 items, and a weight of at most 1,000
  abbrev pub AlternativeKept : Alternative → Type 0
  AlternativeKept (plainly c) = ContentKept 8 c
  AlternativeKept (weighted n c) = (n ≤ 1000) × ContentKept 8 c

  -- a guard has at most 4 comparisons
  abbrev pub GuardKept : Guard → Type 0
  GuardKept none = Unit {0}
  GuardKept (guarded cs) = AtMost 4 (ComparisonKept known) cs

abbrev pub HeadKept : Fact Left → Type 0
HeadKept = FactKept (LeftKept (λ v. Unit {0}))

-- a rule has at most 3 heads, kept and removed ones together
abbrev pub HeadsKept : Some (Fact Left) → Arrow → Type 0
HeadsKept hs (propagating g) = AtMost 3 HeadKept hs
HeadsKept hs (simplifying g) = AtMost 3 HeadKept hs
HeadsKept hs (simpagating rs g) = (count hs + count rs ≤ 3) × Each HeadKept hs × Each HeadKept rs

abbrev pub arrow_guard : Arrow → Guard
arrow_guard (propagating g) = g
arrow_guard (simplifying g) = g
arrow_guard (simpagating rs g) = g

-- at most 6 of these names are different
abbrev pub AtMostSix : List (List ℕ) → Type 0
AtMostSix vs = (ns : List (List ℕ)) → Differ ns → Within ns vs → length ns ≤ 6

-- the variables of the guard and of the body, of at most 8 alternatives, stand in heads
abbrev pub RuleKept : Rule → Type 0
RuleKept (rule l hs a b) =
    HeadsKept hs a × AtMostSix (rule_variables hs a) × GuardKept (λ v. In v (rule_variables hs a)) (arrow_guard a) × AtMost 8 (AlternativeKept (λ v. In v (rule_variables hs a))) b

abbrev pub rule_name : Rule → List ℕ
rule_name (rule l hs a b) = label_name l

abbrev pub names : List Rule → List (List ℕ)
names [] = []
names (r ∷ rs) = rule_name r ∷ names rs

abbrev pub RulesKept : List Rule → Type 0
RulesKept [] = Unit {0}
RulesKept (r ∷ rs) = RuleKept r × RulesKept rs

-- a book has at most 32 rules of different names
abbrev pub BookKept : List Rule → Type 0
BookKept b = (length b ≤ 32) × Differ (names b) × RulesKept b

-- a goal has at most 16 items and no variable
abbrev pub GoalKept : Content → Type 0
GoalKept = ContentKept (λ v. ⊥) 16
