-- The words of a book or goal, as written, are marked as the grammar says them. Assumes nothing.
use Rattle.std.proofs.Common.{◌≡◌, ℕ, zero, suc, ◌-◌, Bool, true, false, cond, not, ◌&&◌, ◌||◌, eqb, List, [], ◌∷◌, ◌++◌, length, sym, refl, ap, ◌∙◌, subst}
use Rattle.std.proofs.lemmas.Bool.{cond-false, or_parts, and_right, eqb-true, false≢true}
use Rattle.syntax.specs.Syntax.{W, name, var, num, weight, sign, kind, ahead, fine, Said, plain, spoiled, Reader}
use Rattle.syntax.specs.Exact.{Exact}
use Rattle.syntax.specs.Parts.{Some, last, more, say_all, say_parts, list_all, say_many}
use Rattle.syntax.specs.Marks.{comma, dot, semicolon, bar, colon, simplify, simplify_guarded, propagate, propagate_guarded}
use Rattle.syntax.specs.Tree.{Number, positive, negative, alone, raised, lowered, Left, number, cell, variable, Right as RightSide, fixed, summed, Argument, held, valued, Fact, bare, applied, Relation, is_less, is_at_most, is_equal, is_at_least, is_greater, is_different, Telling, tells_less, tells_at_most, tells_equal, tells_at_least, tells_greater, Comparison, compared, Item, added, told, failing, Content, nil, items, Alternative, plainly, weighted, Guard, none, guarded, Arrow, propagating, simplifying, simpagating, Label, named, named_true, named_fail, Rule, rule}
use Rattle.syntax.specs.Grammar.{Scope, binding, closed, next_left, next_head, same, seal, scope_of, next_all, behind, count, label_word, next_rule, relation_code, telling_code, say_number, say_left, say_right, say_argument, say_fact, say_head, say_comparison, say_asking, say_item, say_content, say_alternative, say_body, say_guard, say_heads, say_arrow, say_rule, say_book, say_goal}
use Rattle.syntax.specs.Readers.{read_book, read_goal}
use Rattle.syntax.specs.Marking.{is_mark, guard_ahead, marked_sign, marked_word, starts_behind, marked_from, marked, written_word, written, Raw}
use Rattle.syntax.specs.Claims.{Lacks, GuardsTold, WrittenExactly}
use Rattle.syntax.proofs.Several.{only_self, mark_forth}
use Rattle.syntax.proofs.Books.{book_exact, goal_exact}

abbrev colon_ahead : List W → Bool
colon_ahead = ahead (kind (sign colon) ∷ [])

-- the words are what marking makes of them as written; b tells whether an alternative may start
abbrev Right : Bool → List W → Type 0
Right b [] = Unit {0}
Right b (w ∷ r) = (marked_word b (written_word w) (written r) ≡ w) × Right (starts_behind (written_word w) (written r)) r

right_again : (b : Bool) (u : List W) → Right b u → marked_from b (written u) ≡ u
right_again b [] h = refl
right_again b (w ∷ r) (h, k) = λ i. h i ∷ right_again (starts_behind (written_word w) (written r)) r k i

-- words in front of others
abbrev onto : Said → List W → List W
onto [] u = u
onto (x ∷ s) u = x.0 ∷ onto s u

onto_app : (a b : Said) (u : List W) → onto (a ++ b) u ≡ onto a (onto b u)
onto_app [] b u = refl
onto_app (x ∷ a) b u = ap (λ t. x.0 ∷ t) (onto_app a b u)

onto_plain : (a : Said) → onto a [] ≡ plain a
onto_plain [] = refl
onto_plain (x ∷ a) = ap (λ t. x.0 ∷ t) (onto_plain a)

-- words on which no mark hangs: no weight, arrow, `|`, `.` or `:`
abbrev loud : ℕ → Bool
loud c = eqb c simplify || (eqb c propagate || (eqb c simplify_guarded || (eqb c propagate_guarded || (is_mark bar (sign c) || (is_mark dot (sign c) || is_mark colon (sign c))))))

abbrev Quiet : W → Type 0
Quiet (name p s) = Unit {0}
Quiet (var v) = Unit {0}
Quiet (num n) = Unit {0}
Quiet (weight n) = ⊥
Quiet (sign c) = loud c ≡ false

pub record Still (c : ℕ) : Type 0 where
  pub no_simplify : eqb c simplify ≡ false
  pub no_propagate : eqb c propagate ≡ false
  pub no_simplify_guarded : eqb c simplify_guarded ≡ false
  pub no_propagate_guarded : eqb c propagate_guarded ≡ false
  pub no_bar : is_mark bar (sign c) ≡ false
  pub no_dot : is_mark dot (sign c) ≡ false
  pub no_colon : is_mark colon (sign c) ≡ false

still : (c : ℕ) → loud c ≡ false → Still c
still c h =
    let p = or_parts (eqb c simplify) _ h in
    let q = or_parts (eqb c propagate) _ p.1 in
    let r = or_parts (eqb c simplify_guarded) _ q.1 in
    let s = or_parts (eqb c propagate_guarded) _ r.1 in
    let t = or_parts (is_mark bar (sign c)) _ s.1 in
    let v = or_parts (is_mark dot (sign c)) _ t.1 in
    record { no_simplify = p.0; no_propagate = q.0; no_simplify_guarded = r.0; no_propagate_guarded = s.0; no_bar = t.0; no_dot = v.0; no_colon = v.1 }

quiet_written : (w : W) → Quiet w → written_word w ≡ w
quiet_written (name p s) q = refl
quiet_written (var v) q = refl
quiet_written (num n) q = refl
quiet_written (weight n) q = absurd q
quiet_written (sign c) q = let s = still c q in ap sign (cond-false (eqb c simplify_guarded) _ _ s.no_simplify_guarded ∙ cond-false (eqb c propagate_guarded) _ _ s.no_propagate_guarded)

quiet_marked : (w : W) → Quiet w → (b : Bool) (r : List W) → colon_ahead r ≡ false → marked_word b w r ≡ w
quiet_marked (name p s) q b r h = refl
quiet_marked (var v) q b r h = refl
quiet_marked (num n) q b r h = cond-false (b && colon_ahead r) (weight n) (num n) (and_right b (colon_ahead r) h)
quiet_marked (weight n) q b r h = absurd q
quiet_marked (sign c) q b r h = let s = still c q in ap sign (cond-false (eqb c simplify) _ _ s.no_simplify ∙ cond-false (eqb c propagate) _ _ s.no_propagate)

quiet_guard : (w : W) → Quiet w → (t : List W) → guard_ahead (w ∷ t) ≡ guard_ahead t
quiet_guard (name p s) q t = refl
quiet_guard (var v) q t = refl
quiet_guard (num n) q t = refl
quiet_guard (weight n) q t = absurd q
quiet_guard (sign c) q t = let s = still c q in cond-false (is_mark bar (sign c)) _ _ s.no_bar ∙ cond-false (is_mark dot (sign c)) _ _ s.no_dot

quiet_colon : (w : W) → Quiet w → is_mark colon w ≡ false
quiet_colon (name p s) q = refl
quiet_colon (var v) q = refl
quiet_colon (num n) q = refl
quiet_colon (weight n) q = absurd q
quiet_colon (sign c) q = (still c q).no_colon

-- parts of such words
abbrev Calm : Said → Type 0
Calm [] = Unit {0}
Calm (x ∷ s) = Quiet x.0 × Calm s

calm_guard : (s : Said) → Calm s → (u : List W) → guard_ahead (written (onto s u)) ≡ guard_ahead (written u)
calm_guard [] c u = refl
calm_guard (x ∷ s) (q, c) u = ap (λ w. guard_ahead (w ∷ written (onto s u))) (quiet_written x.0 q) ∙ quiet_guard x.0 q (written (onto s u)) ∙ calm_guard s c u

calm_colon : (s : Said) → Calm s → (u : List W) → colon_ahead (written u) ≡ false → colon_ahead (written (onto s u)) ≡ false
calm_colon [] c u h = h
calm_colon (x ∷ s) (q, c) u h = ap (is_mark colon) (quiet_written x.0 q) ∙ quiet_colon x.0 q

calm_right : (s : Said) → Calm s → (u : List W) → colon_ahead (written u) ≡ false → ((b : Bool) → Right b u) → (b : Bool) → Right b (onto s u)
calm_right [] c u h r b = r b
calm_right (x ∷ s) (q, c) u h r b =
    (ap (λ w. marked_word b w (written (onto s u))) (quiet_written x.0 q) ∙ quiet_marked x.0 q b (written (onto s u)) (calm_colon s c u h), calm_right s c u h r _)

calm_app : (a b : Said) → Calm a → Calm b → Calm (a ++ b)
calm_app [] b c d = d
calm_app (x ∷ a) b c d = (c.0, calm_app a b c.1 d)

calm_spoiled : (n : ℕ) (a : Said) → Calm a → Calm (spoiled n a)
calm_spoiled n [] c = tt
calm_spoiled n (x ∷ a) c = c

module _ {S X : Type 0} (sep : ℕ) (say : S → X → Said) (next : S → X → S) (quiet : loud sep ≡ false) (calm : (σ : S) (x : X) → Calm (say σ x)) where
  calm_all : (σ : S) (xs : Some X) → Calm (say_all sep say next σ xs)
  calm_all σ (last x) = calm σ x
  calm_all σ (more x xs) = calm_app (say σ x) _ (calm σ x) (quiet, calm_all (next σ x) xs)

  calm_parts : (k : ℕ) (σ : S) (xs : Some X) → Calm (say_parts sep say next k σ xs)
  calm_parts zero σ xs = calm_spoiled 5 _ (calm_all σ xs)
  calm_parts (suc k) σ (last x) = calm σ x
  calm_parts (suc k) σ (more x xs) = calm_app (say σ x) _ (calm σ x) (quiet, calm_parts k (next σ x) xs)

calm_number : (n : Number) → Calm (say_number n)
calm_number (positive n) = (tt, tt)
calm_number (negative n) = (refl, (tt, tt))

calm_left : (σ : Scope) (l : Left) → Calm (say_left σ l)
calm_left σ (number n) = calm_number n
calm_left σ (cell k) = (refl, (tt, tt))
calm_left σ (variable v) = (tt, tt)

calm_right_side : (σ : Scope) (r : RightSide) → Calm (say_right σ r)
calm_right_side σ (fixed n) = calm_number n
calm_right_side σ (summed v alone) = (tt, tt)
calm_right_side σ (summed v (raised n)) = (tt, (refl, (tt, tt)))
calm_right_side σ (summed v (lowered n)) = (tt, (refl, (tt, tt)))

calm_argument : (σ : Scope) (a : Argument) → Calm (say_argument σ a)
calm_argument σ (held k) = (refl, (tt, tt))
calm_argument σ (valued r) = calm_right_side σ r

calm_fact : {A : Type 0} (say : Scope → A → Said) (next : Scope → A → Scope) → ((σ : Scope) (a : A) → Calm (say σ a)) → (σ : Scope) (f : Fact A) → Calm (say_fact say next σ f)
calm_fact say next calm σ (bare p n) = (tt, tt)
calm_fact say next calm σ (applied p n xs) = (tt, (refl, calm_app (say_parts comma say next 3 σ xs) _ (calm_parts comma say next refl calm 3 σ xs) (refl, tt)))

calm_heads : (k : ℕ) (σ : Scope) (hs : Some (Fact Left)) → Calm (say_heads k σ hs)
calm_heads = calm_parts comma say_head next_head refl (calm_fact say_left next_left calm_left)

calm_comparison : {R : Type 0} (code : R → ℕ) → ((c : R) → loud (code c) ≡ false) → (σ : Scope) (c : Comparison R) → Calm (say_comparison code σ c)
calm_comparison code quiet σ (compared l c r) = calm_app (say_left σ l) _ (calm_left σ l) (quiet c, calm_right_side σ r)

relation_quiet : (c : Relation) → loud (relation_code c) ≡ false
relation_quiet is_less = refl
relation_quiet is_at_most = refl
relation_quiet is_equal = refl
relation_quiet is_at_least = refl
relation_quiet is_greater = refl
relation_quiet is_different = refl

telling_quiet : (c : Telling) → loud (telling_code c) ≡ false
telling_quiet tells_less = refl
telling_quiet tells_at_most = refl
telling_quiet tells_equal = refl
telling_quiet tells_at_least = refl
telling_quiet tells_greater = refl

calm_item : (σ : Scope) (i : Item) → Calm (say_item σ i)
calm_item σ (added f) = calm_fact say_argument same calm_argument σ f
calm_item σ (told c) = calm_comparison telling_code telling_quiet σ c
calm_item σ failing = (refl, tt)

calm_content : (most : ℕ) (σ : Scope) (c : Content) → Calm (say_content most σ c)
calm_content most σ nil = (refl, tt)
calm_content most σ (items is) = calm_parts comma say_item same refl calm_item most σ is

-- where an alternative may start: its words are right, and no `|` or `.` is in it
abbrev Starting : Said → Type 0
Starting s = ((u : List W) → guard_ahead (written (onto s u)) ≡ guard_ahead (written u)) × ((u : List W) → colon_ahead (written u) ≡ false → ((b : Bool) → Right b u) → Right true (onto s u))

starting_spoiled : (n : ℕ) (s : Said) → Starting s → Starting (spoiled n s)
starting_spoiled n [] h = h
starting_spoiled n (x ∷ s) h = h

module _ {S X : Type 0} (say : S → X → Said) (next : S → X → S) (starting : (σ : S) (x : X) → Starting (say σ x)) where
  starting_more : (σ : S) (x : X) (s : Said) → Starting s → Starting (say σ x ++ (sign semicolon, fine) ∷ s)
  starting_more σ x s (g, h) =
      let e : (u : List W) → onto (say σ x ++ (sign semicolon, fine) ∷ s) u ≡ onto (say σ x) (sign semicolon ∷ onto s u) = onto_app (say σ x) ((sign semicolon, fine) ∷ s) in (
        (λ u. ap (λ t. guard_ahead (written t)) (e u) ∙ (starting σ x).0 (sign semicolon ∷ onto s u) ∙ g u),
        (λ u c r. subst (Right true) (sym (e u)) ((starting σ x).1 (sign semicolon ∷ onto s u) refl (λ b. (refl, h u c r)))),
      )

  starting_all : (σ : S) (xs : Some X) → Starting (say_all semicolon say next σ xs)
  starting_all σ (last x) = starting σ x
  starting_all σ (more x xs) = starting_more σ x (say_all semicolon say next (next σ x) xs) (starting_all (next σ x) xs)

  starting_parts : (k : ℕ) (σ : S) (xs : Some X) → Starting (say_parts semicolon say next k σ xs)
  starting_parts zero σ xs = starting_spoiled 5 (say_all semicolon say next σ xs) (starting_all σ xs)
  starting_parts (suc k) σ (last x) = starting σ x
  starting_parts (suc k) σ (more x xs) = starting_more σ x (say_parts semicolon say next k (next σ x) xs) (starting_parts k (next σ x) xs)

starting_alternative : (σ : Scope) (a : Alternative) → Starting (say_alternative σ a)
starting_alternative σ (plainly c) = let calm = calm_content 8 σ c in (calm_guard (say_content 8 σ c) calm, λ u h r. calm_right (say_content 8 σ c) calm u h r true)
starting_alternative σ (weighted n c) =
    let calm = calm_content 8 σ c in
    (calm_guard (say_content 8 σ c) calm, λ u h r. (refl, (refl, calm_right (say_content 8 σ c) calm u h r _)))

starting_body : (σ : Scope) (b : Some Alternative) → Starting (say_body σ b)
starting_body = starting_parts say_alternative same starting_alternative 8

-- the words t come behind a guard, or behind an arrow without one
abbrev Body : List W → Type 0
Body t = (guard_ahead (written t) ≡ false) × Right true t

-- what an arrow p becomes where no guard follows it, and q where one does
pub record Pair (p q : ℕ) : Type 0 where
  pub bare_word : (b : Bool) (t : List W) → marked_word b (written_word (sign p)) t ≡ sign (cond (guard_ahead t) q p)
  pub guard_word : (b : Bool) (t : List W) → marked_word b (written_word (sign q)) t ≡ sign (cond (guard_ahead t) q p)
  pub starts : (t : List W) → starts_behind (written_word (sign p)) t ≡ not (guard_ahead t)

simplify_pair : Pair simplify simplify_guarded
simplify_pair = record { bare_word = λ b t. refl; guard_word = λ b t. refl; starts = λ t. refl }

propagate_pair : Pair propagate propagate_guarded
propagate_pair = record { bare_word = λ b t. refl; guard_word = λ b t. refl; starts = λ t. refl }

guard_right : (p q : ℕ) → Pair p q → (σ : Scope) (g : Guard) (t : List W) → Body t → (b : Bool) → Right b (onto (say_guard p q σ g) t)
guard_right p q e σ none t (end, r) b =
    (e.bare_word b (written t) ∙ ap (λ g. sign (cond g q p)) end, subst (λ s. Right s t) (sym (e.starts (written t) ∙ ap not end)) r)
guard_right p q e σ (guarded cs) t (end, r) b =
    let said : Said = say_parts comma say_asking same 4 σ cs in
    let calm : Calm said = calm_parts comma say_asking same refl (calm_comparison relation_code relation_quiet) 4 σ cs in
    let on : onto (said ++ (sign bar, fine) ∷ []) t ≡ onto said (sign bar ∷ t) = onto_app said ((sign bar, fine) ∷ []) t in (
      e.guard_word b (written (onto (said ++ (sign bar, fine) ∷ []) t)) ∙ ap (λ g. sign (cond g q p)) (ap (λ v. guard_ahead (written v)) on ∙ calm_guard said calm (sign bar ∷ t)),
      subst (Right (starts_behind (written_word (sign q)) (written (onto (said ++ (sign bar, fine) ∷ []) t)))) (sym on) (calm_right said calm (sign bar ∷ t) refl (λ b. (refl, r)) _),
    )

guard_colon : (p q : ℕ) (σ : Scope) (g : Guard) (t : List W) → is_mark colon (written_word (sign p)) ≡ false → is_mark colon (written_word (sign q)) ≡ false → colon_ahead (written (onto (say_guard p q σ g) t)) ≡ false
guard_colon p q σ none t hp hq = hp
guard_colon p q σ (guarded cs) t hp hq = hq

arrow_colon : (hs : Some (Fact Left)) (a : Arrow) (t : List W) → colon_ahead (written (onto (say_arrow hs a) t)) ≡ false
arrow_colon hs (propagating g) t = guard_colon propagate propagate_guarded (seal (scope_of hs)) g t refl refl
arrow_colon hs (simplifying g) t = guard_colon simplify simplify_guarded (seal (scope_of hs)) g t refl refl
arrow_colon hs (simpagating rs g) t = refl

arrow_right : (hs : Some (Fact Left)) (a : Arrow) (t : List W) → Body t → (b : Bool) → Right b (onto (say_arrow hs a) t)
arrow_right hs (propagating g) t r b = guard_right propagate propagate_guarded propagate_pair (seal (scope_of hs)) g t r b
arrow_right hs (simplifying g) t r b = guard_right simplify simplify_guarded simplify_pair (seal (scope_of hs)) g t r b
arrow_right hs (simpagating rs g) t r b =
    let σ : Scope = seal (next_all next_head (scope_of hs) rs) in
    let heads : Said = say_heads (3 - count hs) (scope_of hs) rs in
    let guard : Said = say_guard simplify simplify_guarded σ g in
    (refl, subst (Right false) (sym (onto_app heads guard t)) (calm_right heads (calm_heads (3 - count hs) (scope_of hs) rs) (onto guard t) (guard_colon simplify simplify_guarded σ g t refl refl) (guard_right simplify simplify_guarded simplify_pair σ g t r) false))

label_right : (b : Bool) (l : Label) (t : List W) → marked_word b (written_word (label_word l)) t ≡ label_word l
label_right b (named p s) t = refl
label_right b named_true t = refl
label_right b named_fail t = refl

rule_right : (ns : List (List ℕ)) (r : Rule) (u : List W) → ((b : Bool) → Right b u) → (b : Bool) → Right b (onto (say_rule ns r) u)
rule_right ns (rule l hs a c) u h b =
    let heads : Said = say_heads 3 (binding []) hs in
    let arrow : Said = say_arrow hs a in
    let body : Said = say_body (behind hs a) c in
    let starting : Starting body = starting_body (behind hs a) c in
    let t : List W = onto body (sign dot ∷ u) in
    let behind-arrow : Body t = (starting.0 (sign dot ∷ u), starting.1 (sign dot ∷ u) refl (λ b. (refl, h false))) in
    let on : onto (heads ++ (arrow ++ (body ++ (sign dot, fine) ∷ []))) u ≡ onto heads (onto arrow t) = onto_app heads (arrow ++ (body ++ (sign dot, fine) ∷ [])) u ∙ ap (onto heads) (onto_app arrow (body ++ (sign dot, fine) ∷ []) u ∙ ap (onto arrow) (onto_app body ((sign dot, fine) ∷ []) u)) in
    (label_right b l _, (refl, subst (Right false) (sym on) (calm_right heads (calm_heads 3 (binding []) hs) (onto arrow t) (arrow_colon hs a t) (arrow_right hs a t behind-arrow) false)))

list_right : (ns : List (List ℕ)) (rs : List Rule) (b : Bool) → Right b (onto (list_all say_rule next_rule ns rs) [])
list_right ns [] b = tt
list_right ns (r ∷ rs) b =
    let rest : Said = list_all say_rule next_rule (next_rule ns r) rs in
    subst (Right b) (sym (onto_app (say_rule ns r) rest [])) (rule_right ns r (onto rest []) (list_right (next_rule ns r) rs) b)

onto_spoiled : (n : ℕ) (s : Said) (u : List W) → onto (spoiled n s) u ≡ onto s u
onto_spoiled n [] u = refl
onto_spoiled n (x ∷ s) u = refl

onto_many : (k : ℕ) (ns : List (List ℕ)) (rs : List Rule) → onto (say_many say_rule next_rule k ns rs) [] ≡ onto (list_all say_rule next_rule ns rs) []
onto_many zero ns rs = onto_spoiled 5 (list_all say_rule next_rule ns rs) []
onto_many (suc k) ns [] = refl
onto_many (suc k) ns (r ∷ rs) = onto_app (say_rule ns r) _ [] ∙ ap (onto (say_rule ns r)) (onto_many k (next_rule ns r) rs) ∙ sym (onto_app (say_rule ns r) _ [])

-- marking the written words of a book gives its words
pub book_again : (b : List Rule) → marked (written (plain (say_book b))) ≡ plain (say_book b)
unfolding say_book
book_again b =
    let e = sym (onto_plain (say_many say_rule next_rule 32 [] b)) ∙ onto_many 32 [] b in
    right_again false _ (subst (Right false) (sym e) (list_right [] b false))

pub goal_again : (c : Content) → marked (written (plain (say_goal c))) ≡ plain (say_goal c)
unfolding say_goal
goal_again c =
    let said : Said = say_content 16 closed c in
    let e = sym (onto_plain (said ++ (sign dot, fine) ∷ [])) ∙ onto_app said ((sign dot, fine) ∷ []) [] in
    right_again false _ (refl, subst (Right false) (sym e) (calm_right said (calm_content 16 closed c) (sign dot ∷ []) refl (λ b. (refl, tt)) false))

-- words as they come from a text are again what they are marked from
abbrev IsNum : W → Type 0
IsNum (name p s) = ⊥
IsNum (var v) = ⊥
IsNum (num n) = Unit {0}
IsNum (weight n) = ⊥
IsNum (sign m) = ⊥

raw_num : (n : ℕ) (t : Bool) → written_word (cond t (weight n) (num n)) ≡ num n
raw_num n true = refl
raw_num n false = refl

raw_sign : (m : ℕ) (g : Bool) → written_word (sign m) ≡ sign m → written_word (sign (marked_sign m g)) ≡ sign m
raw_sign m g h = go (eqb m simplify) (eqb m propagate) refl refl g
  where
    go : (s p : Bool) → eqb m simplify ≡ s → eqb m propagate ≡ p → (g : Bool) → written_word (sign (cond s (cond g simplify_guarded simplify) (cond p (cond g propagate_guarded propagate) m))) ≡ sign m
    go true p e f true = ap sign (sym (eqb-true m simplify e))
    go true p e f false = ap sign (sym (eqb-true m simplify e))
    go false true e f true = ap sign (sym (eqb-true m propagate f))
    go false true e f false = ap sign (sym (eqb-true m propagate f))
    go false false e f g = h

raw_word : (b : Bool) (w : W) (r : List W) → written_word w ≡ w → written_word (marked_word b w r) ≡ w
raw_word b (name p s) r h = refl
raw_word b (var v) r h = refl
raw_word b (num n) r h = raw_num n (b && colon_ahead r)
raw_word b (weight n) r h = absurd (subst IsNum h tt)
raw_word b (sign m) r h = raw_sign m (guard_ahead r) h

raw_from : (b : Bool) (ws : List W) → Raw ws → written (marked_from b ws) ≡ ws
raw_from b [] h = refl
raw_from b (w ∷ r) (h, k) = λ i. raw_word b w r h i ∷ raw_from (starts_behind w r) r k i

pub raw_again : (ws : List W) → Raw ws → written (marked ws) ≡ ws
raw_again ws h = raw_from false ws h

length_from : (b : Bool) (ws : List W) → length (marked_from b ws) ≡ length ws
length_from b [] = refl
length_from b (w ∷ r) = ap suc (length_from (starts_behind w r) r)

pub marked_length : (ws : List W) → length (marked ws) ≡ length ws
marked_length ws = length_from false ws

-- a `|` with no `.` before it
abbrev Barred : List W → Type 0
Barred ws = (p : List W) × (r : List W) × (ws ≡ p ++ sign bar ∷ r) × Lacks dot p

told_forth : (ws : List W) → guard_ahead ws ≡ true → Barred ws
told_forth [] h = absurd (false≢true h)
told_forth (w ∷ r) h = go (is_mark bar w) (is_mark dot w) refl refl h (told_forth r)
  where
    go : (b d : Bool) → is_mark bar w ≡ b → is_mark dot w ≡ d → cond b true (cond d false (guard_ahead r)) ≡ true → (guard_ahead r ≡ true → Barred r) → Barred (w ∷ r)
    go true d e f h rec = ([], r, ap (λ z. z ∷ r) (sym (mark_forth bar w e)), tt)
    go false true e f h rec = absurd (false≢true h)
    go false false e f h rec = let (p, q, k, l) = rec h in (w ∷ p, q, ap (λ z. w ∷ z) k, ((λ s. false≢true (sym f ∙ ap (is_mark dot) (sym s) ∙ only_self (kind (sign dot)))), l))

told_back : (p r : List W) → Lacks dot p → guard_ahead (p ++ sign bar ∷ r) ≡ true
told_back [] r l = refl
told_back (w ∷ p) r (n, l) = go (is_mark bar w) (is_mark dot w) refl (told_back p r l)
  where
    go : (b d : Bool) → is_mark dot w ≡ d → guard_ahead (p ++ sign bar ∷ r) ≡ true → cond b true (cond d false (guard_ahead (p ++ sign bar ∷ r))) ≡ true
    go true d e rec = refl
    go false true e rec = absurd (n (mark_forth dot w e))
    go false false e rec = rec

pub guards_told : GuardsTold
guards_told ws = (told_forth ws, λ (p, r, e, l). ap guard_ahead e ∙ told_back p r l)

-- a reader that is exact over marked words is exact over words as written
written_by : {X : Type 0} {read : Reader X} {say : X → Said} → ((ws : List W) → Exact read say ws) → ((b : X) → marked (written (plain (say b))) ≡ plain (say b)) → WrittenExactly read say
written_by exact again ws raw b = (
  (λ e. let a = ((exact (marked ws)).accepts b).0 e in (ap written a.0 ∙ raw_again ws raw, a.1)),
  (λ a. ((exact (marked ws)).accepts b).1 (sym (again b) ∙ ap marked a.0, a.1)),
)

pub books_written : WrittenExactly read_book say_book
books_written = written_by book_exact book_again

pub goals_written : WrittenExactly read_goal say_goal
goals_written = written_by goal_exact goal_again
