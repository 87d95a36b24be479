-- What the grammar says has faults 5 to 8 only. Assumes nothing.
use Rattle.std.proofs.Common.{ℕ, zero, suc, ◌-◌, Bool, true, false, cond, ltb, leb, List, [], ◌∷◌, ◌++◌, length, arith}
use Rattle.syntax.specs.Syntax.{W, Note, fine, flaw, Said, spoiled}
use Rattle.syntax.specs.Parts.{Some, last, more, say_all, say_parts, list_all, say_many}
use Rattle.syntax.specs.Marks.{comma, semicolon, simplify, simplify_guarded, propagate, propagate_guarded}
use Rattle.syntax.specs.Tree.{Number, positive, negative, Sum, alone, raised, lowered, Left, number, cell, variable, Right, fixed, summed, Argument, held, valued, Fact, bare, applied, Comparison, compared, Item, added, told, failing, Content, nil, items, Alternative, plainly, weighted, Guard, none, guarded, Arrow, propagating, simplifying, simpagating, Rule, rule}
use Rattle.syntax.specs.Grammar.{Scope, binding, bound, closed, among, var_note, next_left, next_head, next_all, same, seal, scope_of, behind, count, label_note, label_word, spelling, say_number, say_cell, say_variable, say_left, say_sum, say_right, say_argument, say_fact, say_head, relation_code, telling_code, say_comparison, say_asking, say_item, say_content, say_alternative, say_body, say_guard, say_heads, say_arrow, say_rule, next_rule, say_book, say_goal}
use Rattle.syntax.specs.Late.{LateBy, Late, FaultsAreLate}

-- a note of its own
abbrev One : Note → Type 0
One n = LateBy n (Unit {0})

late_cons : (n : Note) (T : Type 0) → One n → T → LateBy n T
late_cons fine T h t = t
late_cons (flaw n) T (a, b, u) t = (a, b, t)

late_app : (a b : Said) → Late a → Late b → Late (a ++ b)
late_app [] b h k = k
late_app ((w, fine) ∷ a) b h k = late_app a b h k
late_app ((w, flaw n) ∷ a) b (p, q, h) k = (p, q, late_app a b h k)

late_spoiled : (a : Said) → Late a → Late (spoiled 5 a)
late_spoiled [] h = tt
late_spoiled ((w, fine) ∷ a) h = (omega arith, omega arith, h)
late_spoiled ((w, flaw n) ∷ a) (p, q, h) = (omega arith, omega arith, h)

module _ {S X : Type 0} (sep : ℕ) (say : S → X → Said) (next : S → X → S) (late : (σ : S) (x : X) → Late (say σ x)) where
  late_all : (σ : S) (xs : Some X) → Late (say_all sep say next σ xs)
  late_all σ (last x) = late σ x
  late_all σ (more x xs) = late_app (say σ x) _ (late σ x) (late_all (next σ x) xs)

  late_parts : (k : ℕ) (σ : S) (xs : Some X) → Late (say_parts sep say next k σ xs)
  late_parts zero σ xs = late_spoiled (say_all sep say next σ xs) (late_all σ xs)
  late_parts (suc k) σ (last x) = late σ x
  late_parts (suc k) σ (more x xs) = late_app (say σ x) _ (late σ x) (late_parts k (next σ x) xs)

module _ {S X : Type 0} (say : S → X → Said) (next : S → X → S) (late : (σ : S) (x : X) → Late (say σ x)) where
  late_list : (σ : S) (xs : List X) → Late (list_all say next σ xs)
  late_list σ [] = tt
  late_list σ (x ∷ xs) = late_app (say σ x) _ (late σ x) (late_list (next σ x) xs)

  late_many : (k : ℕ) (σ : S) (xs : List X) → Late (say_many say next k σ xs)
  late_many zero σ xs = late_spoiled (list_all say next σ xs) (late_list σ xs)
  late_many (suc k) σ [] = tt
  late_many (suc k) σ (x ∷ xs) = late_app (say σ x) _ (late σ x) (late_many k (next σ x) xs)

five : (t : Bool) → One (cond t fine (flaw 5))
five true = tt
five false = (omega arith, omega arith, tt)

late_number : (n : Number) → Late (say_number n)
late_number (positive n) = tt
late_number (negative n) = tt

late_cell : (k : ℕ) → Late (say_cell k)
late_cell k = late_cons (cond (leb k 31) fine (flaw 5)) (Unit {0}) (five (leb k 31)) tt

late_note : (σ : Scope) (v : List ℕ) → One (var_note σ v)
late_note (binding vs) v = go (among vs v) (ltb (length vs) 6)
  where
    go : (a b : Bool) → One (cond a fine (cond b fine (flaw 5)))
    go true b = tt
    go false true = tt
    go false false = (omega arith, omega arith, tt)
late_note (bound vs) v = go (among vs v) (ltb (length vs) 6)
  where
    go : (a b : Bool) → One (cond a fine (cond b (flaw 6) (flaw 5)))
    go true b = tt
    go false true = (omega arith, omega arith, tt)
    go false false = (omega arith, omega arith, tt)
late_note closed v = (omega arith, omega arith, tt)

late_variable : (σ : Scope) (v : List ℕ) → Late (say_variable σ v)
late_variable σ v = late_cons (var_note σ v) (Unit {0}) (late_note σ v) tt

late_left : (σ : Scope) (l : Left) → Late (say_left σ l)
late_left σ (number n) = late_number n
late_left σ (cell k) = late_cell k
late_left σ (variable v) = late_variable σ v

late_sum : (s : Sum) → Late (say_sum s)
late_sum alone = tt
late_sum (raised n) = tt
late_sum (lowered n) = tt

late_right : (σ : Scope) (r : Right) → Late (say_right σ r)
late_right σ (fixed n) = late_number n
late_right σ (summed v s) = late_app (say_variable σ v) (say_sum s) (late_variable σ v) (late_sum s)

late_argument : (σ : Scope) (a : Argument) → Late (say_argument σ a)
late_argument σ (held k) = late_cell k
late_argument σ (valued r) = late_right σ r

late_fact : {A : Type 0} (say : Scope → A → Said) (next : Scope → A → Scope) → ((σ : Scope) (a : A) → Late (say σ a)) → (σ : Scope) (f : Fact A) → Late (say_fact say next σ f)
late_fact say next late σ (bare p n) = tt
late_fact say next late σ (applied p n xs) = late_app (say_parts comma say next 3 σ xs) _ (late_parts comma say next late 3 σ xs) tt

late_head : (σ : Scope) (f : Fact Left) → Late (say_head σ f)
late_head = late_fact say_left next_left late_left

late_comparison : {R : Type 0} (code : R → ℕ) (σ : Scope) (c : Comparison R) → Late (say_comparison code σ c)
late_comparison code σ (compared l c r) = late_app (say_left σ l) _ (late_left σ l) (late_right σ r)

late_item : (σ : Scope) (i : Item) → Late (say_item σ i)
late_item σ (added f) = late_fact say_argument same late_argument σ f
late_item σ (told c) = late_comparison telling_code σ c
late_item σ failing = tt

late_content : (k : ℕ) (σ : Scope) (c : Content) → Late (say_content k σ c)
late_content k σ nil = tt
late_content k σ (items is) = late_parts comma say_item same late_item k σ is

late_alternative : (σ : Scope) (a : Alternative) → Late (say_alternative σ a)
late_alternative σ (plainly c) = late_content 8 σ c
late_alternative σ (weighted n c) = late_cons (cond (leb n 1000) fine (flaw 5)) _ (five (leb n 1000)) (late_content 8 σ c)

late_guard : (p q : ℕ) (σ : Scope) (g : Guard) → Late (say_guard p q σ g)
late_guard p q σ none = tt
late_guard p q σ (guarded cs) = late_app (say_parts comma say_asking same 4 σ cs) _ (late_parts comma say_asking same (late_comparison relation_code) 4 σ cs) tt

late_arrow : (hs : Some (Fact Left)) (a : Arrow) → Late (say_arrow hs a)
late_arrow hs (propagating g) = late_guard propagate propagate_guarded (seal (scope_of hs)) g
late_arrow hs (simplifying g) = late_guard simplify simplify_guarded (seal (scope_of hs)) g
late_arrow hs (simpagating rs g) = late_app (say_heads (3 - count hs) (scope_of hs) rs) _ (late_parts comma say_head next_head late_head (3 - count hs) (scope_of hs) rs) (late_guard simplify simplify_guarded (seal (next_all next_head (scope_of hs) rs)) g)

late_label : (ns : List (List ℕ)) (w : W) → One (label_note ns w)
late_label ns w = go (among ns (spelling w))
  where
    go : (t : Bool) → One (cond t (flaw 7) fine)
    go true = (omega arith, omega arith, tt)
    go false = tt

late_rule : (ns : List (List ℕ)) (r : Rule) → Late (say_rule ns r)
late_rule ns (rule l hs a b) =
    late_cons (label_note ns (label_word l)) _ (late_label ns (label_word l)) (late_app (say_heads 3 (binding []) hs) _ (late_parts comma say_head next_head late_head 3 (binding []) hs) (late_app (say_arrow hs a) _ (late_arrow hs a) (late_app (say_body (behind hs a) b) _ (late_parts semicolon say_alternative same late_alternative 8 (behind hs a) b) tt)))

pub book_late : (b : List Rule) → Late (say_book b)
unfolding say_book
book_late b = late_many say_rule next_rule late_rule 32 [] b

pub goal_late : (c : Content) → Late (say_goal c)
unfolding say_goal
goal_late c = late_app (say_content 16 closed c) _ (late_content 16 closed c) tt

pub faults_are_late : FaultsAreLate
faults_are_late = record { books = book_late; goals = goal_late }
