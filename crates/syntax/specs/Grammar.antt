-- The grammar: what each part of a book or goal says in words, each word with the fault that it has, if any. Assumes nothing.
use Rattle.std.specs.Prelude.{ℕ, suc, ◌-◌, Bool, true, false, cond, ◌&&◌, ◌||◌, List, [], ◌∷◌, ◌++◌, length, ◌==◌, nat_le, nat_lt}
use Rattle.syntax.specs.Syntax.{W, name, var, num, weight, sign, Note, fine, flaw, Said}
use Rattle.syntax.specs.Parts.{Some, last, more, say_parts, say_many}
use Rattle.syntax.specs.Marks.{at_mark, comma, dot, semicolon, bar, backslash, open_mark, close_mark, plus, minus, colon, hash, ask, less, at_most, equal, at_least, greater, different, simplify, simplify_guarded, propagate, propagate_guarded, true_word, fail_word}
use Rattle.syntax.specs.Tree.{Number, positive, negative, Sum, alone, raised, lowered, Left, number, cell, variable, Right, fixed, summed, Argument, held, valued, Fact, bare, applied, Relation, is_less, is_at_most, is_equal, is_at_least, is_greater, is_different, Telling, tells_less, tells_at_most, tells_equal, tells_at_least, tells_greater, Comparison, compared, Item, added, told, failing, Content, nil, items, Alternative, plainly, weighted, Guard, none, guarded, Arrow, propagating, simplifying, simpagating, Label, named, named_true, named_fail, Rule, rule}

-- two names are the same: their bytes are
abbrev pub same_name : List ℕ → List ℕ → Bool
same_name [] [] = true
same_name [] (b ∷ bs) = false
same_name (a ∷ as') [] = false
same_name (a ∷ as') (b ∷ bs) = a == b && same_name as' bs

abbrev pub among : List (List ℕ) → List ℕ → Bool
among [] v = false
among (x ∷ xs) v = same_name x v || among xs v

-- the variables so far: in the heads a new one joins, behind the arrow there may be none new, a goal has none
pub data Scope : Type 0 where
  binding : List (List ℕ) → Scope
  bound : List (List ℕ) → Scope
  closed : Scope

-- a rule has at most 6 variables (fault 5), none behind the arrow that is in no head (fault 6); a goal has none (fault 8)
abbrev pub var_note : Scope → List ℕ → Note
var_note (binding vs) v = cond (among vs v) fine (cond (nat_lt (length vs) 6) fine (flaw 5))
var_note (bound vs) v = cond (among vs v) fine (cond (nat_lt (length vs) 6) (flaw 6) (flaw 5))
var_note closed v = flaw 8

abbrev pub joined : List (List ℕ) → List ℕ → List (List ℕ)
joined vs v = cond (among vs v) vs (vs ++ v ∷ [])

abbrev pub joins : Scope → List ℕ → Scope
joins (binding vs) v = binding (joined vs v)
joins (bound vs) v = bound vs
joins closed v = closed

abbrev pub next_left : Scope → Left → Scope
next_left σ (number n) = σ
next_left σ (cell k) = σ
next_left σ (variable v) = joins σ v

abbrev pub next_all : {S X : Type 0} → (S → X → S) → S → Some X → S
next_all next σ (last x) = next σ x
next_all next σ (more x xs) = next_all next (next σ x) xs

abbrev pub next_head : Scope → Fact Left → Scope
next_head σ (bare p n) = σ
next_head σ (applied p n xs) = next_all next_left σ xs

abbrev pub same : {S X : Type 0} → S → X → S
same σ x = σ

abbrev pub seal : Scope → Scope
seal (binding vs) = bound vs
seal (bound vs) = bound vs
seal closed = closed

-- the variables of the first heads
abbrev pub scope_of : Some (Fact Left) → Scope
scope_of hs = next_all next_head (binding []) hs

-- the variables of all heads, as they hold behind the arrow
abbrev pub behind : Some (Fact Left) → Arrow → Scope
behind hs (propagating g) = seal (scope_of hs)
behind hs (simplifying g) = seal (scope_of hs)
behind hs (simpagating rs g) = seal (next_all next_head (scope_of hs) rs)

abbrev pub count : {X : Type 0} → Some X → ℕ
count (last x) = 1
count (more x xs) = suc (count xs)

-- a number, perhaps behind `-`
abbrev pub say_number : Number → Said
say_number (positive n) = (num n, fine) ∷ []
say_number (negative n) = (sign minus, fine) ∷ (num n, fine) ∷ []

-- a cell is `#` and a number up to 31
abbrev pub cell_note : W → Note
cell_note (name p s) = fine
cell_note (var v) = fine
cell_note (num n) = cond (nat_le n 31) fine (flaw 5)
cell_note (weight n) = fine
cell_note (sign m) = fine

abbrev pub say_cell : ℕ → Said
say_cell k = (sign hash, fine) ∷ (num k, cell_note (num k)) ∷ []

abbrev pub word_note : Scope → W → Note
word_note σ (name p s) = fine
word_note σ (var v) = var_note σ v
word_note σ (num n) = fine
word_note σ (weight n) = fine
word_note σ (sign m) = fine

abbrev pub say_variable : Scope → List ℕ → Said
say_variable σ v = (var v, word_note σ (var v)) ∷ []

-- an argument of a head, or the left side of a comparison: a cell, a variable or a signed number
abbrev pub say_left : Scope → Left → Said
say_left σ (number n) = say_number n
say_left σ (cell k) = say_cell k
say_left σ (variable v) = say_variable σ v

-- behind a variable: nothing, or `+` or `-` and a number
abbrev pub say_sum : Sum → Said
say_sum alone = []
say_sum (raised n) = (sign plus, fine) ∷ (num n, fine) ∷ []
say_sum (lowered n) = (sign minus, fine) ∷ (num n, fine) ∷ []

-- the right side of a comparison: a variable, with or without a sum, or a signed number
abbrev pub say_right : Scope → Right → Said
say_right σ (fixed n) = say_number n
say_right σ (summed v s) = say_variable σ v ++ say_sum s

-- an argument of a fact in a body: a cell, or as the right side of a comparison
abbrev pub say_argument : Scope → Argument → Said
say_argument σ (held k) = say_cell k
say_argument σ (valued r) = say_right σ r

-- a fact is a name, or a name with 1 to 3 arguments in brackets
module _ {A : Type 0} (say : Scope → A → Said) (next : Scope → A → Scope) where
  abbrev pub say_fact : Scope → Fact A → Said
  say_fact σ (bare p n) = (name p n, fine) ∷ []
  say_fact σ (applied p n xs) =
      (name p n, fine) ∷ (sign open_mark, fine) ∷ say_parts comma say next 3 σ xs ++ (sign close_mark, fine) ∷ []

abbrev pub say_head : Scope → Fact Left → Said
say_head = say_fact say_left next_left

abbrev pub say_adding : Scope → Fact Argument → Said
say_adding = say_fact say_argument same

abbrev pub relation_code : Relation → ℕ
relation_code is_less = less
relation_code is_at_most = at_most
relation_code is_equal = equal
relation_code is_at_least = at_least
relation_code is_greater = greater
relation_code is_different = different

abbrev pub telling_code : Telling → ℕ
telling_code tells_less = less
telling_code tells_at_most = at_most
telling_code tells_equal = equal
telling_code tells_at_least = at_least
telling_code tells_greater = greater

-- a comparison is a left side, a relation and a right side
abbrev pub say_comparison : {R : Type 0} → (R → ℕ) → Scope → Comparison R → Said
say_comparison code σ (compared l c r) = say_left σ l ++ (sign (code c), fine) ∷ say_right σ r

-- a guard's comparison may have any relation, a body's any but `\=`
abbrev pub say_asking : Scope → Comparison Relation → Said
say_asking = say_comparison relation_code

abbrev pub say_telling : Scope → Comparison Telling → Said
say_telling = say_comparison telling_code

-- an item is a fact, a comparison or `fail`
abbrev pub say_item : Scope → Item → Said
say_item σ (added f) = say_adding σ f
say_item σ (told c) = say_telling σ c
say_item σ failing = (sign fail_word, fine) ∷ []

-- `true`, or items parted by commas, at most so many
abbrev pub say_content : ℕ → Scope → Content → Said
say_content most σ nil = (sign true_word, fine) ∷ []
say_content most σ (items is) = say_parts comma say_item same most σ is

-- a weight is at most 1,000
abbrev pub weight_note : W → Note
weight_note (name p s) = fine
weight_note (var v) = fine
weight_note (num n) = fine
weight_note (weight n) = cond (nat_le n 1000) fine (flaw 5)
weight_note (sign m) = fine

-- an alternative is `true` or 1 to 8 items, perhaps behind a weight and `:`
abbrev pub say_alternative : Scope → Alternative → Said
say_alternative σ (plainly c) = say_content 8 σ c
say_alternative σ (weighted n c) = (weight n, weight_note (weight n)) ∷ (sign colon, fine) ∷ say_content 8 σ c

-- a body is 1 to 8 alternatives parted by `;`
abbrev pub say_body : Scope → Some Alternative → Said
say_body = say_parts semicolon say_alternative same 8

-- an arrow, and a guard if it has one: 1 to 4 comparisons and `|`
abbrev pub say_guard : ℕ → ℕ → Scope → Guard → Said
say_guard plain guarding σ none = (sign plain, fine) ∷ []
say_guard plain guarding σ (guarded cs) =
    (sign guarding, fine) ∷ say_parts comma say_asking same 4 σ cs ++ (sign bar, fine) ∷ []

-- heads parted by commas, at most so many
abbrev pub say_heads : ℕ → Scope → Some (Fact Left) → Said
say_heads = say_parts comma say_head next_head

-- behind the first heads: the arrow, or `\`, as many more heads as there is room for, and `<=>`
abbrev pub say_arrow : Some (Fact Left) → Arrow → Said
say_arrow hs (propagating g) = say_guard propagate propagate_guarded (seal (scope_of hs)) g
say_arrow hs (simplifying g) = say_guard simplify simplify_guarded (seal (scope_of hs)) g
say_arrow hs (simpagating rs g) =
    (sign backslash, fine) ∷ say_heads (3 - count hs) (scope_of hs) rs ++ say_guard simplify simplify_guarded (seal (next_all next_head (scope_of hs) rs)) g

abbrev pub true_name : List ℕ
true_name = 116 ∷ 114 ∷ 117 ∷ 101 ∷ []

abbrev pub fail_name : List ℕ
fail_name = 102 ∷ 97 ∷ 105 ∷ 108 ∷ []

abbrev pub label_name : Label → List ℕ
label_name (named p s) = s
label_name named_true = true_name
label_name named_fail = fail_name

abbrev pub label_word : Label → W
label_word (named p s) = name p s
label_word named_true = sign true_word
label_word named_fail = sign fail_word

-- the bytes of a word that may name a rule
abbrev pub spelling : W → List ℕ
spelling (name p s) = s
spelling (var v) = v
spelling (num n) = []
spelling (weight n) = []
spelling (sign m) = cond (m == true_word) true_name fail_name

-- a rule's name is no earlier rule's (fault 7)
abbrev pub label_note : List (List ℕ) → W → Note
label_note ns w = cond (among ns (spelling w)) (flaw 7) fine

-- a rule is a name, `@`, 1 to 3 heads with the arrow and the guard, a body and `.`
abbrev pub say_rule : List (List ℕ) → Rule → Said
say_rule ns (rule l hs a b) =
    (label_word l, label_note ns (label_word l)) ∷ (sign at_mark, fine) ∷ say_heads 3 (binding []) hs ++ (say_arrow hs a ++ (say_body (behind hs a) b ++ (sign dot, fine) ∷ []))

abbrev pub next_rule : List (List ℕ) → Rule → List (List ℕ)
next_rule ns (rule l hs a b) = ns ++ label_name l ∷ []

-- a book is 0 to 32 rules
unfoldable pub say_book : List Rule → Said
say_book = say_many say_rule next_rule 32 []

-- a goal is `?-`, `true` or 1 to 16 items, and `.`
unfoldable pub say_goal : Content → Said
say_goal c = (sign ask, fine) ∷ say_content 16 closed c ++ (sign dot, fine) ∷ []
