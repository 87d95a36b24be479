-- Each part of the grammar is read right, so the readers of books and goals are exact. Assumes nothing.
use Rattle.std.proofs.Common.{◌≡◌, ℕ, ◌-◌, Bool, true, false, ◌||◌, eqb, ◌⊎◌, List, [], ◌∷◌, ◌++◌, sym, refl, subst, inl, inr}
use Rattle.syntax.specs.Syntax.{W, var, num, weight, sign, kind, mem, fine, Said, front, Fine, Reader}
use Rattle.syntax.specs.Good.{Good}
use Rattle.syntax.specs.Exact.{Exact}
use Rattle.syntax.specs.Parts.{Some, say_parts}
use Rattle.syntax.specs.Marks.{at_mark, comma, dot, semicolon, bar, backslash, open_mark, close_mark, plus, minus, colon, hash, ask, simplify, simplify_guarded, propagate, propagate_guarded, true_word, fail_word}
use Rattle.syntax.specs.Tree.{Number, positive, negative, Sum, alone, raised, lowered, Left, number, cell, variable, Right, fixed, summed, Argument, held, valued, Fact, bare, applied, Relation, Telling, Comparison, compared, Item, added, told, failing, Content, nil, items, Alternative, plainly, weighted, Guard, none, guarded, Arrow, propagating, simplifying, simpagating, Rule, rule}
use Rattle.syntax.specs.Grammar.{Scope, binding, closed, next_left, next_head, same, seal, scope_of, next_all, behind, count, cell_note, word_note, weight_note, label_word, label_note, next_rule, relation_code, telling_code, say_number, say_left, say_sum, say_right, say_argument, say_fact, say_head, say_adding, say_comparison, say_asking, say_telling, say_item, say_content, say_alternative, say_body, say_guard, say_heads, say_arrow, say_rule, say_book, say_goal}
use Rattle.syntax.specs.Readers.{read_arguments, read_items, read_body, read_askings, read_heads, name_kind, variable_kind, number_kind, first_left, first_item, first_content, first_alternative, first_rule, fine_note, read_cell_number, number_of, read_number, left_of, read_left, sum_of, read_sum, right_of, read_right, argument_of, read_argument, fact_of, read_fact, read_head, read_adding, comparison_of, read_comparison, read_asking, read_tell, item_of, read_item, content_of, read_content, alternative_of, read_alternative, guard_of, read_guard, arrow_of, read_arrow, RuleParts, rule_of, read_rule, read_book, goal_of, read_goal, behind_mark}
use Rattle.syntax.proofs.Laws.{rest_fine, fine_app, fine_parts, say_one, say_both, stops_both, both_good, say_fork, only_end_good, via_good}
use Rattle.syntax.proofs.Several.{Free, Stop, say_mark, mark_good, many_good, many_stop, many_end}
use Rattle.syntax.proofs.Bundles.{Part, Tail, disjoint, mark_part, both_part, both_tail, option, fork_tail, fork_part, via_part, via_tail, kinds_part, several}
use Rattle.syntax.proofs.Words.{spell_name, name_part, digits_part, cell_number_part, weight_part, variable_part, label_part, relation_part, telling_part}
use Rattle.syntax.proofs.Whole.{exact}

-- a mark and then a part; a mark that tells which of two parts comes
abbrev say_behind : {X : Type 0} → ℕ → (X → Said) → ((u : Unit {0}) × X) → Said
say_behind c A = say_both (say_mark c) (λ _. A)

behind_part : {X : Type 0} {R : Reader X} {A : X → Said} {ks g : List ℕ} (c : ℕ) → disjoint ks [] ≡ true → Part R A ks g → Part (behind_mark c R) (say_behind c A) (kind (sign c) ∷ []) g
behind_part c d p = both_part d (mark_part c) (λ _. p)

-- numbers
abbrev of_number : Number → ((u : Unit {0}) × ℕ) ⊎ ℕ
of_number (positive n) = inr n
of_number (negative n) = inl (tt, n)

number_fg : (y : Number) → number_of (of_number y) ≡ y
number_fg (positive n) = refl
number_fg (negative n) = refl

number_gf : (x : ((u : Unit {0}) × ℕ) ⊎ ℕ) → of_number (number_of x) ≡ x
number_gf (inl (u, n)) = refl
number_gf (inr n) = refl

abbrev say_digits : ℕ → Said
say_digits = say_one num fine_note

number_same : (x : ((u : Unit {0}) × ℕ) ⊎ ℕ) → say_number (number_of x) ≡ say_fork (say_behind minus say_digits) say_digits x
number_same (inl (u, n)) = refl
number_same (inr n) = refl

number_part : Part read_number say_number (kind (sign minus) ∷ number_kind ∷ []) []
number_part = via_part number_of of_number say_number number_fg number_gf number_same (fork_part refl (behind_part minus refl digits_part) digits_part)

-- left sides
abbrev of_left : Left → ((u : Unit {0}) × ℕ) ⊎ (List ℕ ⊎ Number)
of_left (number n) = inr (inr n)
of_left (cell k) = inl (tt, k)
of_left (variable v) = inr (inl v)

left_fg : (y : Left) → left_of (of_left y) ≡ y
left_fg (number n) = refl
left_fg (cell k) = refl
left_fg (variable v) = refl

left_gf : (x : ((u : Unit {0}) × ℕ) ⊎ (List ℕ ⊎ Number)) → of_left (left_of x) ≡ x
left_gf (inl (u, k)) = refl
left_gf (inr (inl v)) = refl
left_gf (inr (inr n)) = refl

abbrev say_held : ((u : Unit {0}) × ℕ) → Said
say_held = say_behind hash (say_one num cell_note)

held_part : Part (behind_mark hash read_cell_number) say_held (kind (sign hash) ∷ []) []
held_part = behind_part hash refl cell_number_part

left_same : (σ : Scope) (x : ((u : Unit {0}) × ℕ) ⊎ (List ℕ ⊎ Number)) → say_left σ (left_of x) ≡ say_fork say_held (say_fork (say_one var (word_note σ)) say_number) x
left_same σ (inl (u, k)) = refl
left_same σ (inr (inl v)) = refl
left_same σ (inr (inr n)) = refl

pub left_part : (σ : Scope) → Part (read_left σ) (say_left σ) first_left []
left_part σ = via_part left_of of_left (say_left σ) left_fg left_gf (left_same σ) (fork_part refl held_part (fork_part refl (variable_part σ) number_part))

-- sums
abbrev of_sum : Sum → ((u : Unit {0}) × ℕ) ⊎ (((u : Unit {0}) × ℕ) ⊎ Unit {0})
of_sum alone = inr (inr tt)
of_sum (raised n) = inl (tt, n)
of_sum (lowered n) = inr (inl (tt, n))

sum_fg : (y : Sum) → sum_of (of_sum y) ≡ y
sum_fg alone = refl
sum_fg (raised n) = refl
sum_fg (lowered n) = refl

sum_gf : (x : ((u : Unit {0}) × ℕ) ⊎ (((u : Unit {0}) × ℕ) ⊎ Unit {0})) → of_sum (sum_of x) ≡ x
sum_gf (inl (u, n)) = refl
sum_gf (inr (inl (u, n))) = refl
sum_gf (inr (inr u)) = refl

abbrev say_lowered : (((u : Unit {0}) × ℕ) ⊎ Unit {0}) → Said
say_lowered = say_fork (say_behind minus say_digits) (λ _. [])

sum_same : (x : ((u : Unit {0}) × ℕ) ⊎ (((u : Unit {0}) × ℕ) ⊎ Unit {0})) → say_sum (sum_of x) ≡ say_fork (say_behind plus say_digits) say_lowered x
sum_same (inl (u, n)) = refl
sum_same (inr (inl (u, n))) = refl
sum_same (inr (inr u)) = refl

sum_away : (y : ((u : Unit {0}) × ℕ) ⊎ Unit {0}) (r : List W) → (Fine (say_lowered y) → Stop (kind (sign plus) ∷ []) r) → Stop (kind (sign plus) ∷ []) (front (say_lowered y) r)
sum_away (inl (u, n)) r h = refl
sum_away (inr u) r h = h tt

abbrev pub sum_marks : List ℕ
sum_marks = kind (sign plus) ∷ kind (sign minus) ∷ []

sum_tail : Tail read_sum say_sum sum_marks
sum_tail = via_tail sum_of of_sum say_sum sum_fg sum_gf sum_same (fork_tail sum_away (behind_part plus refl digits_part) (option (behind_part minus refl digits_part)))

-- right sides
abbrev of_right : Right → ((v : List ℕ) × Sum) ⊎ Number
of_right (fixed n) = inr n
of_right (summed v s) = inl (v, s)

right_fg : (y : Right) → right_of (of_right y) ≡ y
right_fg (fixed n) = refl
right_fg (summed v s) = refl

right_gf : (x : ((v : List ℕ) × Sum) ⊎ Number) → of_right (right_of x) ≡ x
right_gf (inl (v, s)) = refl
right_gf (inr n) = refl

right_same : (σ : Scope) (x : ((v : List ℕ) × Sum) ⊎ Number) → say_right σ (right_of x) ≡ say_fork (say_both (say_one var (word_note σ)) (λ _. say_sum)) say_number x
right_same σ (inl (v, s)) = refl
right_same σ (inr n) = refl

pub right_part : (σ : Scope) → Part (read_right σ) (say_right σ) (variable_kind ∷ kind (sign minus) ∷ number_kind ∷ []) sum_marks
right_part σ = via_part right_of of_right (say_right σ) right_fg right_gf (right_same σ) (fork_part refl (both_tail (variable_part σ) (λ _. sum_tail)) number_part)

-- arguments
abbrev of_argument : Argument → ((u : Unit {0}) × ℕ) ⊎ Right
of_argument (held k) = inl (tt, k)
of_argument (valued r) = inr r

argument_fg : (y : Argument) → argument_of (of_argument y) ≡ y
argument_fg (held k) = refl
argument_fg (valued r) = refl

argument_gf : (x : ((u : Unit {0}) × ℕ) ⊎ Right) → of_argument (argument_of x) ≡ x
argument_gf (inl (u, k)) = refl
argument_gf (inr r) = refl

argument_same : (σ : Scope) (x : ((u : Unit {0}) × ℕ) ⊎ Right) → say_argument σ (argument_of x) ≡ say_fork say_held (say_right σ) x
argument_same σ (inl (u, k)) = refl
argument_same σ (inr r) = refl

pub argument_part : (σ : Scope) → Part (read_argument σ) (say_argument σ) first_left sum_marks
argument_part σ = via_part argument_of of_argument (say_argument σ) argument_fg argument_gf (argument_same σ) (fork_part refl held_part (right_part σ))

-- facts, over their arguments
abbrev Named : Type 0 → Type 0
Named A = (n : ℕ × List ℕ) × (((u : Unit {0}) × ((xs : Some A) × Unit {0})) ⊎ Unit {0})

module _ {A : Type 0} (read : Scope → Reader A) (say : Scope → A → Said) (next : Scope → A → Scope) where
  abbrev of_fact : Fact A → Named A
  of_fact (bare p n) = ((p, n), inr tt)
  of_fact (applied p n xs) = ((p, n), inl (tt, (xs, tt)))

  fact_fg : (y : Fact A) → fact_of read next (of_fact y) ≡ y
  fact_fg (bare p n) = refl
  fact_fg (applied p n xs) = refl

  fact_gf : (x : Named A) → of_fact (fact_of read next x) ≡ x
  fact_gf ((p, n), inl (u, (xs, v))) = refl
  fact_gf ((p, n), inr u) = refl

  fact_same : (σ : Scope) (x : Named A) → say_fact say next σ (fact_of read next x) ≡ say_both (say_one spell_name fine_note) (λ _. say_fork (say_behind open_mark (say_both (say_parts comma say next 3 σ) (λ _. say_mark close_mark))) (λ _. [])) x
  fact_same σ ((p, n), inl (u, (xs, v))) = refl
  fact_same σ ((p, n), inr u) = refl

  pub fact_part : {g : List ℕ} → mem g (kind (sign comma)) ≡ false → disjoint (kind (sign close_mark) ∷ []) (g ++ kind (sign comma) ∷ []) ≡ true → ((σ : Scope) → Part (read σ) (say σ) first_left g) → (σ : Scope) → Part (read_fact read next σ) (say_fact say next σ) (name_kind ∷ []) (kind (sign open_mark) ∷ [])
  unfolding read_arguments
  fact_part clear shut p σ =
      via_part (fact_of read next) of_fact (say_fact say next σ) fact_fg fact_gf (fact_same σ) (both_tail name_part (λ _. option (behind_part open_mark refl (both_part shut (several comma next clear p 3 σ) (λ _. mark_part close_mark)))))

pub head_part : (σ : Scope) → Part (read_head σ) (say_head σ) (name_kind ∷ []) (kind (sign open_mark) ∷ [])
head_part = fact_part read_left say_left next_left refl refl left_part

pub adding_part : (σ : Scope) → Part (read_adding σ) (say_adding σ) (name_kind ∷ []) (kind (sign open_mark) ∷ [])
adding_part = fact_part read_argument say_argument same refl refl argument_part

-- comparisons
abbrev of_comparison : {R : Type 0} → Comparison R → ((l : Left) × ((c : R) × Right))
of_comparison (compared l c r) = (l, (c, r))

comparison_fg : {R : Type 0} (y : Comparison R) → comparison_of (of_comparison y) ≡ y
comparison_fg (compared l c r) = refl

comparison_gf : {R : Type 0} (x : (l : Left) × ((c : R) × Right)) → of_comparison (comparison_of x) ≡ x
comparison_gf (l, (c, r)) = refl

comparison_same : {R : Type 0} (code : R → ℕ) (σ : Scope) (x : (l : Left) × ((c : R) × Right)) → say_comparison code σ (comparison_of x) ≡ say_both (say_left σ) (λ _. say_both (say_one (λ c. sign (code c)) fine_note) (λ _. say_right σ)) x
comparison_same code σ (l, (c, r)) = refl

comparison_part : {R : Type 0} {read : Reader R} (code : R → ℕ) {ks : List ℕ} → disjoint ks [] ≡ true → Part read (say_one (λ c. sign (code c)) fine_note) ks [] → (σ : Scope) → Part (read_comparison read σ) (say_comparison code σ) first_left sum_marks
comparison_part code d p σ =
    via_part comparison_of of_comparison (say_comparison code σ) comparison_fg comparison_gf (comparison_same code σ) (both_part d (left_part σ) (λ _. both_part refl p (λ _. right_part σ)))

pub asking_part : (σ : Scope) → Part (read_asking σ) (say_asking σ) first_left sum_marks
asking_part = comparison_part relation_code refl relation_part

pub tell_part : (σ : Scope) → Part (read_tell σ) (say_telling σ) first_left sum_marks
tell_part = comparison_part telling_code refl telling_part

-- items
abbrev of_item : Item → Fact Argument ⊎ (Unit {0} ⊎ Comparison Telling)
of_item (added f) = inl f
of_item (told c) = inr (inr c)
of_item failing = inr (inl tt)

item_fg : (y : Item) → item_of (of_item y) ≡ y
item_fg (added f) = refl
item_fg (told c) = refl
item_fg failing = refl

item_gf : (x : Fact Argument ⊎ (Unit {0} ⊎ Comparison Telling)) → of_item (item_of x) ≡ x
item_gf (inl f) = refl
item_gf (inr (inl u)) = refl
item_gf (inr (inr c)) = refl

item_same : (σ : Scope) (x : Fact Argument ⊎ (Unit {0} ⊎ Comparison Telling)) → say_item σ (item_of x) ≡ say_fork (say_adding σ) (say_fork (say_mark fail_word) (say_telling σ)) x
item_same σ (inl f) = refl
item_same σ (inr (inl u)) = refl
item_same σ (inr (inr c)) = refl

abbrev pub item_marks : List ℕ
item_marks = kind (sign open_mark) ∷ sum_marks

pub item_part : (σ : Scope) → Part (read_item σ) (say_item σ) first_item item_marks
item_part σ = via_part item_of of_item (say_item σ) item_fg item_gf (item_same σ) (fork_part refl (adding_part σ) (fork_part refl (mark_part fail_word) (tell_part σ)))

-- contents
abbrev of_content : Content → Unit {0} ⊎ Some Item
of_content nil = inl tt
of_content (items is) = inr is

content_fg : (y : Content) → content_of (of_content y) ≡ y
content_fg nil = refl
content_fg (items is) = refl

content_gf : (x : Unit {0} ⊎ Some Item) → of_content (content_of x) ≡ x
content_gf (inl u) = refl
content_gf (inr is) = refl

content_same : (most : ℕ) (σ : Scope) (x : Unit {0} ⊎ Some Item) → say_content most σ (content_of x) ≡ say_fork (say_mark true_word) (say_parts comma say_item same most σ) x
content_same most σ (inl u) = refl
content_same most σ (inr is) = refl

abbrev pub content_marks : List ℕ
content_marks = item_marks ++ kind (sign comma) ∷ []

pub content_part : (most : ℕ) (σ : Scope) → Part (read_content most σ) (say_content most σ) first_content content_marks
unfolding read_items
content_part most σ = via_part content_of of_content (say_content most σ) content_fg content_gf (content_same most σ) (fork_part refl (mark_part true_word) (several comma same refl item_part most σ))

-- alternatives
abbrev Weighed : Type 0
Weighed = (n : ℕ) × ((u : Unit {0}) × Content)

abbrev of_alternative : Alternative → Weighed ⊎ Content
of_alternative (plainly c) = inr c
of_alternative (weighted n c) = inl (n, (tt, c))

alternative_fg : (y : Alternative) → alternative_of (of_alternative y) ≡ y
alternative_fg (plainly c) = refl
alternative_fg (weighted n c) = refl

alternative_gf : (x : Weighed ⊎ Content) → of_alternative (alternative_of x) ≡ x
alternative_gf (inl (n, (u, c))) = refl
alternative_gf (inr c) = refl

alternative_same : (σ : Scope) (x : Weighed ⊎ Content) → say_alternative σ (alternative_of x) ≡ say_fork (say_both (say_one weight weight_note) (λ _. say_behind colon (say_content 8 σ))) (say_content 8 σ) x
alternative_same σ (inl (n, (u, c))) = refl
alternative_same σ (inr c) = refl

abbrev pub alternative_marks : List ℕ
alternative_marks = content_marks ++ content_marks

pub alternative_part : (σ : Scope) → Part (read_alternative σ) (say_alternative σ) first_alternative alternative_marks
alternative_part σ =
    via_part alternative_of of_alternative (say_alternative σ) alternative_fg alternative_gf (alternative_same σ) (fork_part refl (both_part refl weight_part (λ _. behind_part colon refl (content_part 8 σ))) (content_part 8 σ))

-- bodies
abbrev pub body_marks : List ℕ
body_marks = alternative_marks ++ kind (sign semicolon) ∷ []

pub body_part : (σ : Scope) → Part (read_body σ) (say_body σ) first_alternative body_marks
unfolding read_body
body_part σ = several semicolon same refl alternative_part 8 σ

-- arrows with their guards
abbrev Guarded : Type 0
Guarded = ((u : Unit {0}) × ((cs : Some (Comparison Relation)) × Unit {0})) ⊎ Unit {0}

abbrev of_guard : Guard → Guarded
of_guard none = inr tt
of_guard (guarded cs) = inl (tt, (cs, tt))

guard_fg : (y : Guard) → guard_of (of_guard y) ≡ y
guard_fg none = refl
guard_fg (guarded cs) = refl

guard_gf : (x : Guarded) → of_guard (guard_of x) ≡ x
guard_gf (inl (u, (cs, v))) = refl
guard_gf (inr u) = refl

guard_same : (p q : ℕ) (σ : Scope) (x : Guarded) → say_guard p q σ (guard_of x) ≡ say_fork (say_behind q (say_both (say_parts comma say_asking same 4 σ) (λ _. say_mark bar))) (say_mark p) x
guard_same p q σ (inl (u, (cs, v))) = refl
guard_same p q σ (inr u) = refl

guard_part : (p q : ℕ) → disjoint (kind (sign p) ∷ []) (kind (sign q) ∷ []) ≡ true → (σ : Scope) → Part (read_guard p q σ) (say_guard p q σ) (kind (sign q) ∷ kind (sign p) ∷ []) []
unfolding read_askings
guard_part p q d σ =
    via_part guard_of of_guard (say_guard p q σ) guard_fg guard_gf (guard_same p q σ) (fork_part d (behind_part q refl (both_part refl (several comma same refl asking_part 4 σ) (λ _. mark_part bar))) (mark_part p))

abbrev simplify_kinds : List ℕ
simplify_kinds = kind (sign simplify_guarded) ∷ kind (sign simplify) ∷ []

abbrev propagate_kinds : List ℕ
propagate_kinds = kind (sign propagate) ∷ kind (sign propagate_guarded) ∷ []

pub simplify_part : (σ : Scope) → Part (read_guard simplify simplify_guarded σ) (say_guard simplify simplify_guarded σ) simplify_kinds []
simplify_part = guard_part simplify simplify_guarded refl

or_swap : (a b : Bool) → a || (b || false) ≡ b || (a || false)
or_swap true true = refl
or_swap true false = refl
or_swap false true = refl
or_swap false false = refl

pub propagate_part : (σ : Scope) → Part (read_guard propagate propagate_guarded σ) (say_guard propagate propagate_guarded σ) propagate_kinds []
propagate_part σ =
    kinds_part (λ k. or_swap (eqb (kind (sign propagate)) k) (eqb (kind (sign propagate_guarded)) k)) (guard_part propagate propagate_guarded refl σ)

-- heads
abbrev pub head_marks : List ℕ
head_marks = kind (sign open_mark) ∷ kind (sign comma) ∷ []

pub heads_part : (k : ℕ) (σ : Scope) → Part (read_heads k σ) (say_heads k σ) (name_kind ∷ []) head_marks
unfolding read_heads
heads_part k σ = several comma next_head refl head_part k σ

-- what follows the first heads
abbrev Arrows : Type 0
Arrows = ((u : Unit {0}) × ((rs : Some (Fact Left)) × Guard)) ⊎ (Guard ⊎ Guard)

abbrev of_arrow : Arrow → Arrows
of_arrow (propagating g) = inr (inl g)
of_arrow (simplifying g) = inr (inr g)
of_arrow (simpagating rs g) = inl (tt, (rs, g))

arrow_fg : (y : Arrow) → arrow_of (of_arrow y) ≡ y
arrow_fg (propagating g) = refl
arrow_fg (simplifying g) = refl
arrow_fg (simpagating rs g) = refl

arrow_gf : (x : Arrows) → of_arrow (arrow_of x) ≡ x
arrow_gf (inl (u, (rs, g))) = refl
arrow_gf (inr (inl g)) = refl
arrow_gf (inr (inr g)) = refl

abbrev removed_scope : Some (Fact Left) → Some (Fact Left) → Scope
removed_scope hs rs = seal (next_all next_head (scope_of hs) rs)

arrow_same : (hs : Some (Fact Left)) (x : Arrows) → say_arrow hs (arrow_of x) ≡ say_fork (say_behind backslash (say_both (say_heads (3 - count hs) (scope_of hs)) (λ rs. say_guard simplify simplify_guarded (removed_scope hs rs)))) (say_fork (say_guard propagate propagate_guarded (seal (scope_of hs))) (say_guard simplify simplify_guarded (seal (scope_of hs)))) x
arrow_same hs (inl (u, (rs, g))) = refl
arrow_same hs (inr (inl g)) = refl
arrow_same hs (inr (inr g)) = refl

abbrev pub first_arrow : List ℕ
first_arrow = kind (sign backslash) ∷ propagate_kinds ++ simplify_kinds

pub arrow_part : (hs : Some (Fact Left)) → Part (read_arrow hs) (say_arrow hs) first_arrow []
arrow_part hs =
    via_part arrow_of of_arrow (say_arrow hs) arrow_fg arrow_gf (arrow_same hs) (fork_part refl
    (behind_part backslash refl (both_part refl (heads_part (3 - count hs) (scope_of hs)) (λ rs. simplify_part (removed_scope hs rs))))
    (fork_part refl (propagate_part (seal (scope_of hs))) (simplify_part (seal (scope_of hs)))))

-- rules
abbrev of_rule : Rule → RuleParts
of_rule (rule l hs a b) = (l, (tt, (hs, (a, (b, tt)))))

rule_fg : (y : Rule) → rule_of (of_rule y) ≡ y
rule_fg (rule l hs a b) = refl

rule_gf : (x : RuleParts) → of_rule (rule_of x) ≡ x
rule_gf (l, (u, (hs, (a, (b, v))))) = refl

rule_same : (ns : List (List ℕ)) (x : RuleParts) → say_rule ns (rule_of x) ≡ say_both (say_one label_word (label_note ns)) (λ _. say_both (say_mark at_mark) (λ _. say_both (say_heads 3 (binding [])) (λ hs. say_both (say_arrow hs) (λ a. say_both (say_body (behind hs a)) (λ _. say_mark dot))))) x
rule_same ns (l, (u, (hs, (a, (b, v))))) = refl

pub rule_part : (ns : List (List ℕ)) → Part (read_rule ns) (say_rule ns) first_rule []
rule_part ns =
    via_part rule_of of_rule (say_rule ns) rule_fg rule_gf (rule_same ns) (both_part refl (label_part ns) (λ _. both_part refl (mark_part at_mark) (λ _. both_part refl (heads_part 3 (binding [])) (λ hs. both_part refl (arrow_part hs) (λ a. both_part refl (body_part (behind hs a)) (λ _. mark_part dot))))))

-- books
pub book_exact : (ws : List W) → Exact read_book say_book ws
unfolding read_book say_book
book_exact ws = exact
    (many_good next_rule say_rule (λ ns. (rule_part ns).S) first_rule (λ ns. (rule_part ns).opens) (λ ns. (rule_part ns).starts) read_rule (λ ns. (rule_part ns).good) 32 [])
    (many_stop next_rule say_rule (λ ns. (rule_part ns).S) first_rule (λ ns. (rule_part ns).opens) [] (λ k m. refl) (λ ns. (rule_part ns).stop) 32 [])
    (many_end next_rule say_rule (λ ns. (rule_part ns).S) first_rule (λ ns. (rule_part ns).opens) [] (λ k m. refl) (λ ns. (rule_part ns).stop) 32 [])
    ws

-- goals
abbrev GoalParts : Type 0
GoalParts = (u : Unit {0}) × ((c : Content) × ((v : Unit {0}) × Unit {0}))

abbrev of_goal : Content → GoalParts
of_goal c = (tt, (c, (tt, tt)))

abbrev say_content_dot : ((c : Content) × ((v : Unit {0}) × Unit {0})) → Said
say_content_dot = say_both (say_content 16 closed) (λ _. say_behind dot (λ _. []))

abbrev stops_goal : Content → List W → Type 0
stops_goal c r = stops_both (say_mark ask) (λ _. say_content_dot) Free (λ _. stops_both (say_content 16 closed) (λ _. say_behind dot (λ _. [])) (content_part 16 closed).S (λ _. stops_both (say_mark dot) (λ _ _. []) Free (λ _ _ t. t ≡ []))) (of_goal c) r

goal_same : (x : GoalParts) → say_goal (goal_of x) ≡ say_behind ask say_content_dot x
unfolding say_goal
goal_same (u, (c, (v, w))) = refl

goal_good : Good read_goal say_goal stops_goal
unfolding read_goal
goal_good = via_good goal_of of_goal say_goal (λ c. refl) (λ x. refl) goal_same (both_good (mark_good ask) (λ _. both_good (content_part 16 closed).good (λ _. both_good (mark_good dot) (λ _. only_end_good))))

goal_stop : (c : Content) (r : List W) → (Fine (say_goal c) → r ≡ []) → stops_goal c r
unfolding say_goal
goal_stop c r h =
    let said : Said = say_content 16 closed c in
    (tt, λ _. ((content_part 16 closed).stop c _ (λ f. subst (Stop content_marks) (sym (rest_fine said ((sign dot, fine) ∷ []) r f)) refl), λ f. (tt, λ _. h (fine_app said ((sign dot, fine) ∷ []) f tt))))

goal_end : (c : Content) (r : List W) → Fine (say_goal c) → stops_goal c r → r ≡ []
unfolding say_goal
goal_end c r f s = ((s.1 tt).1 (fine_parts (say_content 16 closed c) ((sign dot, fine) ∷ []) f).0).1 tt

pub goal_exact : (ws : List W) → Exact read_goal say_goal ws
goal_exact ws = exact goal_good goal_stop goal_end ws
