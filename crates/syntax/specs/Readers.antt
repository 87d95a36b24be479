-- How each part of a book or goal is read. Assumes nothing.
use Rattle.std.specs.Prelude.{ℕ, ◌-◌, cond, ◌⊎◌, List, [], ◌∷◌, ◌==◌}
use Rattle.std.proofs.Common.{inl, inr}
use Rattle.syntax.specs.Syntax.{W, name, var, num, weight, sign, kind, Note, fine, Reader, one, nothing, both, fork, via, only_end}
use Rattle.syntax.specs.Parts.{Some, mark, parts, many}
use Rattle.syntax.specs.Marks.{at_mark, comma, dot, semicolon, bar, backslash, open_mark, close_mark, plus, minus, colon, hash, ask, less, at_most, equal, at_least, greater, different, simplify, simplify_guarded, propagate, propagate_guarded, true_word, fail_word}
use Rattle.syntax.specs.Tree.{Number, positive, negative, Sum, alone, raised, lowered, Left, number, cell, variable, Right, fixed, summed, Argument, held, valued, Fact, bare, applied, Relation, is_less, is_at_most, is_equal, is_at_least, is_greater, is_different, Telling, tells_less, tells_at_most, tells_equal, tells_at_least, tells_greater, Comparison, compared, Item, added, told, failing, Content, nil, items, Alternative, plainly, weighted, Guard, none, guarded, Arrow, propagating, simplifying, simpagating, Label, named, named_true, named_fail, Rule, rule}
use Rattle.syntax.specs.Grammar.{Scope, binding, closed, next_left, next_head, same, seal, scope_of, next_all, behind, count, cell_note, word_note, weight_note, label_note, next_rule}

-- the kinds of words that begin a part
abbrev pub name_kind : ℕ
name_kind = 0

abbrev pub variable_kind : ℕ
variable_kind = 1

abbrev pub number_kind : ℕ
number_kind = 2

abbrev pub weight_kind : ℕ
weight_kind = 3

abbrev pub first_left : List ℕ
first_left = kind (sign hash) ∷ variable_kind ∷ kind (sign minus) ∷ number_kind ∷ []

abbrev pub first_item : List ℕ
first_item = name_kind ∷ kind (sign fail_word) ∷ first_left

abbrev pub first_content : List ℕ
first_content = kind (sign true_word) ∷ first_item

abbrev pub first_alternative : List ℕ
first_alternative = weight_kind ∷ first_content

abbrev pub first_rule : List ℕ
first_rule = name_kind ∷ kind (sign true_word) ∷ kind (sign fail_word) ∷ []

-- what a word is worth where its kind is the one asked for
abbrev pub name_value : W → ℕ × List ℕ
name_value (name p s) = (p, s)
name_value (var v) = (0, [])
name_value (num n) = (0, [])
name_value (weight n) = (0, [])
name_value (sign m) = (0, [])

abbrev pub var_value : W → List ℕ
var_value (name p s) = []
var_value (var v) = v
var_value (num n) = []
var_value (weight n) = []
var_value (sign m) = []

abbrev pub num_value : W → ℕ
num_value (name p s) = 0
num_value (var v) = 0
num_value (num n) = n
num_value (weight n) = 0
num_value (sign m) = 0

abbrev pub weight_value : W → ℕ
weight_value (name p s) = 0
weight_value (var v) = 0
weight_value (num n) = 0
weight_value (weight n) = n
weight_value (sign m) = 0

abbrev pub label_value : W → Label
label_value (name p s) = named p s
label_value (var v) = named_fail
label_value (num n) = named_fail
label_value (weight n) = named_fail
label_value (sign m) = cond (m == true_word) named_true named_fail

abbrev pub code_of : W → ℕ
code_of (name p s) = 0
code_of (var v) = 0
code_of (num n) = 0
code_of (weight n) = 0
code_of (sign m) = m

abbrev pub relation_value : W → Relation
relation_value w =
    cond (code_of w == less) is_less (cond (code_of w == at_most) is_at_most (cond (code_of w == equal) is_equal (cond (code_of w == at_least) is_at_least (cond (code_of w == greater) is_greater is_different))))

abbrev pub telling_value : W → Telling
telling_value w =
    cond (code_of w == less) tells_less (cond (code_of w == at_most) tells_at_most (cond (code_of w == equal) tells_equal (cond (code_of w == at_least) tells_at_least tells_greater)))

abbrev pub fine_note : W → Note
fine_note w = fine

-- words of one kind
abbrev pub read_name : Reader (ℕ × List ℕ)
read_name = one (name_kind ∷ []) name_value fine_note

abbrev pub read_digits : Reader ℕ
read_digits = one (number_kind ∷ []) num_value fine_note

abbrev pub read_cell_number : Reader ℕ
read_cell_number = one (number_kind ∷ []) num_value cell_note

abbrev pub read_weight : Reader ℕ
read_weight = one (weight_kind ∷ []) weight_value weight_note

abbrev pub read_variable : Scope → Reader (List ℕ)
read_variable σ = one (variable_kind ∷ []) var_value (word_note σ)

abbrev pub read_label : List (List ℕ) → Reader Label
read_label ns = one first_rule label_value (label_note ns)

abbrev pub read_relation : Reader Relation
read_relation =
    one (kind (sign less) ∷ kind (sign at_most) ∷ kind (sign equal) ∷ kind (sign at_least) ∷ kind (sign greater) ∷ kind (sign different) ∷ []) relation_value fine_note

abbrev pub read_telling : Reader Telling
read_telling =
    one (kind (sign less) ∷ kind (sign at_most) ∷ kind (sign equal) ∷ kind (sign at_least) ∷ kind (sign greater) ∷ []) telling_value fine_note

-- a mark and then a part
abbrev pub behind_mark : {X : Type 0} → ℕ → Reader X → Reader ((u : Unit {0}) × X)
behind_mark c a = both (mark c) (λ _. a)

-- a mark that tells which of two parts comes
abbrev pub on_mark : {X Y : Type 0} → ℕ → Reader X → Reader Y → Reader (((u : Unit {0}) × X) ⊎ Y)
on_mark c a b = fork (kind (sign c) ∷ []) (behind_mark c a) b

abbrev pub number_of : ((u : Unit {0}) × ℕ) ⊎ ℕ → Number
number_of (inl (u, n)) = negative n
number_of (inr n) = positive n

abbrev pub read_number : Reader Number
read_number = via number_of (on_mark minus read_digits read_digits)

abbrev pub left_of : ((u : Unit {0}) × ℕ) ⊎ (List ℕ ⊎ Number) → Left
left_of (inl (u, k)) = cell k
left_of (inr (inl v)) = variable v
left_of (inr (inr n)) = number n

abbrev pub read_left : Scope → Reader Left
read_left σ = via left_of (on_mark hash read_cell_number (fork (variable_kind ∷ []) (read_variable σ) read_number))

abbrev pub sum_of : ((u : Unit {0}) × ℕ) ⊎ (((u : Unit {0}) × ℕ) ⊎ Unit {0}) → Sum
sum_of (inl (u, n)) = raised n
sum_of (inr (inl (u, n))) = lowered n
sum_of (inr (inr u)) = alone

abbrev pub read_sum : Reader Sum
read_sum = via sum_of (on_mark plus read_digits (on_mark minus read_digits nothing))

abbrev pub right_of : ((v : List ℕ) × Sum) ⊎ Number → Right
right_of (inl (v, s)) = summed v s
right_of (inr n) = fixed n

abbrev pub read_right : Scope → Reader Right
read_right σ = via right_of (fork (variable_kind ∷ []) (both (read_variable σ) (λ _. read_sum)) read_number)

abbrev pub argument_of : ((u : Unit {0}) × ℕ) ⊎ Right → Argument
argument_of (inl (u, k)) = held k
argument_of (inr r) = valued r

abbrev pub read_argument : Scope → Reader Argument
read_argument σ = via argument_of (on_mark hash read_cell_number (read_right σ))

-- facts, over their arguments
module _ {A : Type 0} (read : Scope → Reader A) (next : Scope → A → Scope) where
  abbrev pub fact_of : ((n : ℕ × List ℕ) × (((u : Unit {0}) × ((xs : Some A) × Unit {0})) ⊎ Unit {0})) → Fact A
  fact_of ((p, n), inl (u, (xs, v))) = applied p n xs
  fact_of ((p, n), inr u) = bare p n

  unfoldable pub read_arguments : Scope → Reader (Some A)
  read_arguments = parts first_left comma read next 3

  abbrev pub read_fact : Scope → Reader (Fact A)
  read_fact σ = via fact_of (both read_name (λ _. on_mark open_mark (both (read_arguments σ) (λ _. mark close_mark)) nothing))

abbrev pub read_head : Scope → Reader (Fact Left)
read_head = read_fact read_left next_left

abbrev pub read_adding : Scope → Reader (Fact Argument)
read_adding = read_fact read_argument same

abbrev pub comparison_of : {R : Type 0} → ((l : Left) × ((c : R) × Right)) → Comparison R
comparison_of (l, (c, r)) = compared l c r

abbrev pub read_comparison : {R : Type 0} → Reader R → Scope → Reader (Comparison R)
read_comparison relation σ = via comparison_of (both (read_left σ) (λ _. both relation (λ _. read_right σ)))

abbrev pub read_asking : Scope → Reader (Comparison Relation)
read_asking = read_comparison read_relation

abbrev pub read_tell : Scope → Reader (Comparison Telling)
read_tell = read_comparison read_telling

abbrev pub item_of : Fact Argument ⊎ (Unit {0} ⊎ Comparison Telling) → Item
item_of (inl f) = added f
item_of (inr (inl u)) = failing
item_of (inr (inr c)) = told c

abbrev pub read_item : Scope → Reader Item
read_item σ = via item_of (fork (name_kind ∷ []) (read_adding σ) (fork (kind (sign fail_word) ∷ []) (mark fail_word) (read_tell σ)))

abbrev pub content_of : Unit {0} ⊎ Some Item → Content
content_of (inl u) = nil
content_of (inr is) = items is

-- one or more items, at most so many
unfoldable pub read_items : ℕ → Scope → Reader (Some Item)
read_items = parts first_item comma read_item same

abbrev pub read_content : ℕ → Scope → Reader Content
read_content most σ = via content_of (fork (kind (sign true_word) ∷ []) (mark true_word) (read_items most σ))

abbrev pub alternative_of : ((n : ℕ) × ((u : Unit {0}) × Content)) ⊎ Content → Alternative
alternative_of (inl (n, (u, c))) = weighted n c
alternative_of (inr c) = plainly c

abbrev pub read_alternative : Scope → Reader Alternative
read_alternative σ =
    via alternative_of (fork (weight_kind ∷ []) (both read_weight (λ _. behind_mark colon (read_content 8 σ))) (read_content 8 σ))

unfoldable pub read_body : Scope → Reader (Some Alternative)
read_body = parts first_alternative semicolon read_alternative same 8

abbrev pub guard_of : ((u : Unit {0}) × ((cs : Some (Comparison Relation)) × Unit {0})) ⊎ Unit {0} → Guard
guard_of (inl (u, (cs, v))) = guarded cs
guard_of (inr u) = none

-- one to four comparisons of a guard
unfoldable pub read_askings : Scope → Reader (Some (Comparison Relation))
read_askings = parts first_left comma read_asking same 4

abbrev pub read_guard : ℕ → ℕ → Scope → Reader Guard
read_guard plain guarding σ =
    via guard_of (on_mark guarding (both (read_askings σ) (λ _. mark bar)) (mark plain))

unfoldable pub read_heads : ℕ → Scope → Reader (Some (Fact Left))
read_heads = parts (name_kind ∷ []) comma read_head next_head

abbrev pub arrow_of : ((u : Unit {0}) × ((rs : Some (Fact Left)) × Guard)) ⊎ (Guard ⊎ Guard) → Arrow
arrow_of (inl (u, (rs, g))) = simpagating rs g
arrow_of (inr (inl g)) = propagating g
arrow_of (inr (inr g)) = simplifying g

abbrev pub read_arrow : Some (Fact Left) → Reader Arrow
read_arrow hs =
    via arrow_of (on_mark backslash
    (both (read_heads (3 - count hs) (scope_of hs)) (λ rs. read_guard simplify simplify_guarded (seal (next_all next_head (scope_of hs) rs))))
    (fork (kind (sign propagate) ∷ kind (sign propagate_guarded) ∷ []) (read_guard propagate propagate_guarded (seal (scope_of hs))) (read_guard simplify simplify_guarded (seal (scope_of hs)))))

abbrev pub RuleParts : Type 0
RuleParts = (l : Label) × ((u : Unit {0}) × ((hs : Some (Fact Left)) × ((a : Arrow) × ((b : Some Alternative) × Unit {0}))))

abbrev pub rule_of : RuleParts → Rule
rule_of (l, (u, (hs, (a, (b, v))))) = rule l hs a b

abbrev pub read_rule : List (List ℕ) → Reader Rule
read_rule ns =
    via rule_of (both (read_label ns) (λ _. behind_mark at_mark (both (read_heads 3 (binding [])) (λ hs. both (read_arrow hs) (λ a. both (read_body (behind hs a)) (λ _. mark dot))))))

unfoldable pub read_book : Reader (List Rule)
read_book = many first_rule read_rule next_rule 32 []

abbrev pub goal_of : ((u : Unit {0}) × ((c : Content) × ((v : Unit {0}) × Unit {0}))) → Content
goal_of (u, (c, (v, w))) = c

unfoldable pub read_goal : Reader Content
read_goal = via goal_of (behind_mark ask (both (read_content 16 closed) (λ _. behind_mark dot only_end)))
