-- A book or goal has no fault exactly if its tree keeps the limits. Assumes nothing.
use Rattle.std.proofs.Common.{◌≡◌, ℕ, zero, suc, ◌-◌, ◌≤◌, Bool, true, false, cond, leb, ◌⊎◌, ◌↔◌, List, [], ◌∷◌, ◌++◌, length, sym, refl, ap, ◌∙◌, subst, inl, inr, true≢false, arith}
use Rattle.std.proofs.lemmas.Bool.{leb-true, le-leb}
use Rattle.syntax.specs.Syntax.{sign, fine, flaw, Said, Fine, FineBy, spoiled}
use Rattle.syntax.specs.Good.{Begins}
use Rattle.syntax.specs.Parts.{Some, last, more, say_all, say_parts, list_all, say_many}
use Rattle.syntax.specs.Marks.{comma, dot, semicolon, bar, close_mark, simplify, simplify_guarded, propagate, propagate_guarded}
use Rattle.syntax.specs.Tree.{Number, positive, negative, Sum, alone, raised, lowered, Left, number, cell, variable, Right, fixed, summed, Argument, held, valued, Fact, bare, applied, Comparison, compared, Item, added, told, failing, Content, nil, items, Alternative, plainly, weighted, Guard, none, guarded, Arrow, propagating, simplifying, simpagating, Label, named, named_true, named_fail, Rule, rule}
use Rattle.syntax.specs.Grammar.{Scope, binding, bound, closed, among, next_left, next_head, same, seal, scope_of, next_all, behind, count, label_name, label_word, label_note, spelling, next_rule, relation_code, telling_code, say_number, say_cell, say_variable, say_left, say_sum, say_right, say_argument, say_head, say_adding, say_comparison, say_asking, say_item, say_content, say_alternative, say_body, say_guard, say_heads, say_arrow, say_rule, say_book, say_goal}
use Rattle.syntax.specs.Readers.{name_kind, first_left, first_item, first_alternative, first_rule}
use Rattle.syntax.specs.Limits.{In, Differ, Each, AtMost, gathered, left_variables, head_variables, arrow_variables, rule_variables, LeftKept, RightKept, ArgumentKept, ComparisonKept, FactKept, ItemKept, ContentKept, AlternativeKept, GuardKept, HeadKept, HeadsKept, arrow_guard, RuleKept, rule_name, names, RulesKept, BookKept, GoalKept}
use Rattle.syntax.specs.Claims.{LimitsExactly}
use Rattle.syntax.proofs.Laws.{fine_app, fine_parts}
use Rattle.syntax.proofs.Several.{begins_app}
use Rattle.syntax.proofs.Books.{left_part, argument_part, asking_part, item_part, alternative_part, head_part, rule_part}
use Rattle.syntax.proofs.Names.{among_in, in_among, in_left, in_right, in_cases, adds, adds_app, Room, room_app, room_exact, known_exact}

-- a note by a test
test_fine : (a b n : ℕ) (T : Type 0) → FineBy (cond (leb a b) fine (flaw n)) T ↔ ((a ≤ b) × T)
test_fine a b n T = (forth (leb a b) refl, λ (h, t). subst (λ x. FineBy (cond x fine (flaw n)) T) (sym (le-leb a b h)) t)
  where
    forth : (x : Bool) → leb a b ≡ x → FineBy (cond x fine (flaw n)) T → (a ≤ b) × T
    forth true e f = (leb-true a b e, f)
    forth false e f = absurd f

cell_fine : (k : ℕ) → Fine (say_cell k) ↔ (k ≤ 31)
cell_fine k = let e = test_fine k 31 5 (Unit {0}) in ((λ f. (e.0 f).0), (λ h. e.1 (h, tt)))

number_fine : (n : Number) → Fine (say_number n)
number_fine (positive n) = tt
number_fine (negative n) = tt

sum_fine : (s : Sum) → Fine (say_sum s)
sum_fine alone = tt
sum_fine (raised n) = tt
sum_fine (lowered n) = tt

-- parts one after the other, each without fault
abbrev FineAll : {S X : Type 0} → (S → X → Said) → (S → X → S) → S → Some X → Type 0
FineAll say next σ (last x) = Fine (say σ x)
FineAll say next σ (more x xs) = Fine (say σ x) × FineAll say next (next σ x) xs

spoiled_bad : (ks : List ℕ) (n : ℕ) (s : Said) → Begins ks s → Fine (spoiled n s) → ⊥
spoiled_bad ks n [] b f = b
spoiled_bad ks n (x ∷ s) b f = f

count_some : {X : Type 0} (xs : Some X) → 1 ≤ count xs
count_some (last x) = omega arith
count_some (more x xs) = omega arith

module _ {S X : Type 0} (sep : ℕ) (say : S → X → Said) (next : S → X → S) (ks : List ℕ) (opens : (σ : S) (x : X) → Begins ks (say σ x)) where
  all_opens : (σ : S) (xs : Some X) → Begins ks (say_all sep say next σ xs)
  all_opens σ (last x) = opens σ x
  all_opens σ (more x xs) = begins_app ks (say σ x) _ (opens σ x)

  parts_forth : (k : ℕ) (σ : S) (xs : Some X) → Fine (say_parts sep say next k σ xs) → (count xs ≤ k) × FineAll say next σ xs
  parts_forth zero σ xs f = absurd (spoiled_bad ks 5 (say_all sep say next σ xs) (all_opens σ xs) f)
  parts_forth (suc k) σ (last x) f = (omega arith, f)
  parts_forth (suc k) σ (more x xs) f =
      let (a, b) = fine_parts (say σ x) _ f in
      let (c, d) = parts_forth k (next σ x) xs b in
      (omega (arith, c), (a, d))

  parts_back : (k : ℕ) (σ : S) (xs : Some X) → count xs ≤ k → FineAll say next σ xs → Fine (say_parts sep say next k σ xs)
  parts_back zero σ xs h f = let e = count_some xs in absurd (omega (arith, h, e))
  parts_back (suc k) σ (last x) h f = f
  parts_back (suc k) σ (more x xs) h (f, g) = fine_app (say σ x) _ f (parts_back k (next σ x) xs (omega (arith, h)) g)

module _ {S X : Type 0} (say : S → X → Said) (σ : S) (P : X → Type 0) (e : (x : X) → Fine (say σ x) ↔ P x) where
  each_forth : (xs : Some X) → FineAll say same σ xs → Each P xs
  each_forth (last x) f = (e x).0 f
  each_forth (more x xs) (f, g) = ((e x).0 f, each_forth xs g)

  each_back : (xs : Some X) → Each P xs → FineAll say same σ xs
  each_back (last x) p = (e x).1 p
  each_back (more x xs) (p, q) = ((e x).1 p, each_back xs q)

  several_fine : (sep : ℕ) (ks : List ℕ) → ((σ : S) (x : X) → Begins ks (say σ x)) → (k : ℕ) (xs : Some X) → Fine (say_parts sep say same k σ xs) ↔ AtMost k P xs
  several_fine sep ks opens k xs =
      ((λ f. let (c, d) = parts_forth sep say same ks opens k σ xs f in (c, each_forth xs d)), (λ (c, d). parts_back sep say same ks opens k σ xs c (each_back xs d)))

-- parts behind the arrow, and of goals
module _ (σ : Scope) (known : List ℕ → Type 0) (k : (v : List ℕ) → Fine (say_variable σ v) ↔ known v) where
  left_fine : (l : Left) → Fine (say_left σ l) ↔ LeftKept known l
  left_fine (number n) = ((λ f. tt), (λ u. number_fine n))
  left_fine (cell c) = cell_fine c
  left_fine (variable v) = k v

  right_fine : (r : Right) → Fine (say_right σ r) ↔ RightKept known r
  right_fine (fixed n) = ((λ f. tt), (λ u. number_fine n))
  right_fine (summed v s) = ((λ f. (k v).0 (fine_parts (say_variable σ v) (say_sum s) f).0), (λ h. fine_app (say_variable σ v) (say_sum s) ((k v).1 h) (sum_fine s)))

  argument_fine : (a : Argument) → Fine (say_argument σ a) ↔ ArgumentKept known a
  argument_fine (held c) = cell_fine c
  argument_fine (valued r) = right_fine r

  comparison_fine : {R : Type 0} (code : R → ℕ) (c : Comparison R) → Fine (say_comparison code σ c) ↔ ComparisonKept known c
  comparison_fine code (compared l c r) =
      ((λ f. let (a, b) = fine_parts (say_left σ l) _ f in ((left_fine l).0 a, (right_fine r).0 b)), (λ (a, b). fine_app (say_left σ l) _ ((left_fine l).1 a) ((right_fine r).1 b)))

  adding_fine : (f : Fact Argument) → Fine (say_adding σ f) ↔ FactKept (ArgumentKept known) f
  adding_fine (bare p n) = ((λ f. tt), (λ u. tt))
  adding_fine (applied p n xs) =
      let e = several_fine say_argument σ (ArgumentKept known) argument_fine comma first_left (λ σ. (argument_part σ).opens) 3 xs in
      ((λ f. e.0 (fine_parts (say_parts comma say_argument same 3 σ xs) _ f).0), (λ h. fine_app (say_parts comma say_argument same 3 σ xs) _ (e.1 h) tt))

  item_fine : (i : Item) → Fine (say_item σ i) ↔ ItemKept known i
  item_fine (added f) = adding_fine f
  item_fine (told c) = comparison_fine telling_code c
  item_fine failing = ((λ f. tt), (λ u. tt))

  content_fine : (most : ℕ) (c : Content) → Fine (say_content most σ c) ↔ ContentKept known most c
  content_fine most nil = ((λ f. tt), (λ u. tt))
  content_fine most (items is) = several_fine say_item σ (ItemKept known) item_fine comma first_item (λ σ. (item_part σ).opens) most is

  alternative_fine : (a : Alternative) → Fine (say_alternative σ a) ↔ AlternativeKept known a
  alternative_fine (plainly c) = content_fine 8 c
  alternative_fine (weighted n c) =
      let e = test_fine n 1000 5 (Fine (say_content 8 σ c)) in
      ((λ f. let (a, b) = e.0 f in (a, (content_fine 8 c).0 b)), (λ (a, b). e.1 (a, (content_fine 8 c).1 b)))

  body_fine : (b : Some Alternative) → Fine (say_body σ b) ↔ AtMost 8 (AlternativeKept known) b
  body_fine = several_fine say_alternative σ (AlternativeKept known) alternative_fine semicolon first_alternative (λ σ. (alternative_part σ).opens) 8

  guard_fine : (p q : ℕ) (g : Guard) → Fine (say_guard p q σ g) ↔ GuardKept known g
  guard_fine p q none = ((λ f. tt), (λ u. tt))
  guard_fine p q (guarded cs) =
      let said : Said = say_parts comma say_asking same 4 σ cs in
      let e = several_fine say_asking σ (ComparisonKept known) (comparison_fine relation_code) comma first_left (λ σ. (asking_part σ).opens) 4 cs in
      ((λ f. e.0 (fine_parts said ((sign bar, fine) ∷ []) f).0), (λ h. fine_app said ((sign bar, fine) ∷ []) (e.1 h) tt))

goal_fine : (c : Content) → Fine (say_goal c) ↔ GoalKept c
unfolding say_goal
goal_fine c =
    let said : Said = say_content 16 closed c in
    let e = content_fine closed (λ v. ⊥) (λ v. ((λ f. f), (λ f. f))) 16 c in
    ((λ f. e.0 (fine_parts said ((sign dot, fine) ∷ []) f).0), (λ h. fine_app said ((sign dot, fine) ∷ []) (e.1 h) tt))

-- heads: variables join as they come
module _ {X : Type 0} (say : Scope → X → Said) (next : Scope → X → Scope) (vars : X → List (List ℕ)) (P : X → Type 0) (step : (vs : List (List ℕ)) (x : X) → next (binding vs) x ≡ binding (adds vs (vars x))) (e : (vs : List (List ℕ)) (x : X) → Fine (say (binding vs) x) ↔ (P x × Room vs (vars x))) where
  threaded_step : (vs : List (List ℕ)) (xs : Some X) → next_all next (binding vs) xs ≡ binding (adds vs (gathered vars xs))
  threaded_step vs (last x) = step vs x
  threaded_step vs (more x xs) = ap (λ σ. next_all next σ xs) (step vs x) ∙ threaded_step (adds vs (vars x)) xs ∙ ap binding (sym (adds_app vs (vars x) (gathered vars xs)))

  threaded_fine : (vs : List (List ℕ)) (xs : Some X) → FineAll say next (binding vs) xs ↔ (Each P xs × Room vs (gathered vars xs))
  threaded_fine vs (last x) = e vs x
  threaded_fine vs (more x xs) =
      let rec = threaded_fine (adds vs (vars x)) xs in
      let room = room_app vs (vars x) (gathered vars xs) in (
        (λ (f, g). let (p, r) = (e vs x).0 f in let (q, s) = rec.0 (subst (λ σ. FineAll say next σ xs) (step vs x) g) in ((p, q), room.1 (r, s))),
        (λ ((p, q), r). let (a, b) = room.0 r in ((e vs x).1 (p, a), subst (λ σ. FineAll say next σ xs) (sym (step vs x)) (rec.1 (q, b)))),
      )

abbrev Any : List ℕ → Type 0
Any v = Unit {0}

left_step : (vs : List (List ℕ)) (l : Left) → next_left (binding vs) l ≡ binding (adds vs (left_variables l))
left_step vs (number n) = refl
left_step vs (cell k) = refl
left_step vs (variable v) = refl

left_threaded : (vs : List (List ℕ)) (l : Left) → Fine (say_left (binding vs) l) ↔ (LeftKept Any l × Room vs (left_variables l))
left_threaded vs (number n) = ((λ f. (tt, tt)), (λ u. number_fine n))
left_threaded vs (cell k) = ((λ f. ((cell_fine k).0 f, tt)), (λ (h, u). (cell_fine k).1 h))
left_threaded vs (variable v) = ((λ f. (tt, (f, tt))), (λ (u, (f, v)). f))

head_step : (vs : List (List ℕ)) (f : Fact Left) → next_head (binding vs) f ≡ binding (adds vs (head_variables f))
head_step vs (bare p n) = refl
head_step vs (applied p n xs) = threaded_step say_left next_left left_variables (LeftKept Any) left_step left_threaded vs xs

head_threaded : (vs : List (List ℕ)) (f : Fact Left) → Fine (say_head (binding vs) f) ↔ (HeadKept f × Room vs (head_variables f))
head_threaded vs (bare p n) = ((λ f. (tt, tt)), (λ u. tt))
head_threaded vs (applied p n xs) =
    let said : Said = say_parts comma say_left next_left 3 (binding vs) xs in
    let all = threaded_fine say_left next_left left_variables (LeftKept Any) left_step left_threaded vs xs in (
      (λ f. let (c, d) = parts_forth comma say_left next_left first_left (λ σ. (left_part σ).opens) 3 (binding vs) xs (fine_parts said ((sign close_mark, fine) ∷ []) f).0 in let (p, r) = all.0 d in ((c, p), r)),
      (λ ((c, p), r). fine_app said ((sign close_mark, fine) ∷ []) (parts_back comma say_left next_left first_left (λ σ. (left_part σ).opens) 3 (binding vs) xs c (all.1 (p, r))) tt),
    )

heads_fine : (k : ℕ) (vs : List (List ℕ)) (hs : Some (Fact Left)) → Fine (say_heads k (binding vs) hs) ↔ ((count hs ≤ k) × Each HeadKept hs × Room vs (gathered head_variables hs))
heads_fine k vs hs =
    let all = threaded_fine say_head next_head head_variables HeadKept head_step head_threaded vs hs in (
      (λ f. let (c, d) = parts_forth comma say_head next_head (name_kind ∷ []) (λ σ. (head_part σ).opens) k (binding vs) hs f in let (p, r) = all.0 d in (c, p, r)),
      (λ (c, p, r). parts_back comma say_head next_head (name_kind ∷ []) (λ σ. (head_part σ).opens) k (binding vs) hs c (all.1 (p, r))),
    )

heads_step : (vs : List (List ℕ)) (hs : Some (Fact Left)) → next_all next_head (binding vs) hs ≡ binding (adds vs (gathered head_variables hs))
heads_step = threaded_step say_head next_head head_variables HeadKept head_step head_threaded

-- the variables that hold behind the arrow are those of the heads
behind_is : (hs : Some (Fact Left)) (a : Arrow) → behind hs a ≡ bound (adds [] (rule_variables hs a))
behind_is hs (propagating g) = ap seal (heads_step [] hs) ∙ ap bound (sym (adds_app [] (gathered head_variables hs) []))
behind_is hs (simplifying g) = ap seal (heads_step [] hs) ∙ ap bound (sym (adds_app [] (gathered head_variables hs) []))
behind_is hs (simpagating rs g) =
    ap (λ σ. seal (next_all next_head σ rs)) (heads_step [] hs) ∙ ap seal (heads_step (adds [] (gathered head_variables hs)) rs) ∙ ap bound (sym (adds_app [] (gathered head_variables hs) (gathered head_variables rs)))

known_behind : (hs : Some (Fact Left)) (a : Arrow) (v : List ℕ) → Fine (say_variable (behind hs a) v) ↔ In v (rule_variables hs a)
known_behind hs a v = subst (λ σ. Fine (say_variable σ v) ↔ In v (rule_variables hs a)) (sym (behind_is hs a)) (known_exact (rule_variables hs a) v)

-- the heads behind `\`
abbrev RemovedKept : Some (Fact Left) → Arrow → Type 0
RemovedKept hs (propagating g) = Unit {0}
RemovedKept hs (simplifying g) = Unit {0}
RemovedKept hs (simpagating rs g) = (count rs ≤ 3 - count hs) × Each HeadKept rs

arrow_fine : (hs : Some (Fact Left)) (a : Arrow) → Fine (say_arrow hs a) ↔ (RemovedKept hs a × Room (adds [] (gathered head_variables hs)) (arrow_variables a) × GuardKept (λ v. In v (rule_variables hs a)) (arrow_guard a))
arrow_fine hs (propagating g) =
    let e = guard_fine (behind hs (propagating g)) _ (known_behind hs (propagating g)) propagate propagate_guarded g in ((λ f. (tt, tt, e.0 f)), (λ (u, v, h). e.1 h))
arrow_fine hs (simplifying g) =
    let e = guard_fine (behind hs (simplifying g)) _ (known_behind hs (simplifying g)) simplify simplify_guarded g in ((λ f. (tt, tt, e.0 f)), (λ (u, v, h). e.1 h))
arrow_fine hs (simpagating rs g) =
    let σ : Scope = scope_of hs in
    let vs : List (List ℕ) = adds [] (gathered head_variables hs) in
    let heads : Said = say_heads (3 - count hs) σ rs in
    let guard : Said = say_guard simplify simplify_guarded (behind hs (simpagating rs g)) g in
    let e = guard_fine (behind hs (simpagating rs g)) _ (known_behind hs (simpagating rs g)) simplify simplify_guarded g in
    let h = heads_fine (3 - count hs) vs rs in
    let s : σ ≡ binding vs = heads_step [] hs in (
      (λ f. let (a, b) = fine_parts heads guard f in let (c, p, r) = h.0 (subst (λ z. Fine (say_heads (3 - count hs) z rs)) s a) in ((c, p), r, e.0 b)),
      (λ ((c, p), r, b). fine_app heads guard (subst (λ z. Fine (say_heads (3 - count hs) z rs)) (sym s) (h.1 (c, p, r))) (e.1 b)),
    )

heads_join : (hs : Some (Fact Left)) (a : Arrow) → ((count hs ≤ 3) × Each HeadKept hs × RemovedKept hs a) ↔ HeadsKept hs a
heads_join hs (propagating g) = ((λ (c, p, u). (c, p)), (λ (c, p). (c, p, tt)))
heads_join hs (simplifying g) = ((λ (c, p, u). (c, p)), (λ (c, p). (c, p, tt)))
heads_join hs (simpagating rs g) =
    ((λ (c, p, (d, q)). (omega (arith, c, d), p, q)), (λ (c, p, q). (omega (arith, c), p, (omega (arith, c), q))))

label_spelled : (l : Label) → spelling (label_word l) ≡ label_name l
label_spelled (named p s) = refl
label_spelled named_true = refl
label_spelled named_fail = refl

label_fine : (ns : List (List ℕ)) (l : Label) (T : Type 0) → FineBy (label_note ns (label_word l)) T ↔ ((In (label_name l) ns → ⊥) × T)
label_fine ns l T = ((λ f. forth (among ns v) refl f), (λ (h, t). back (among ns v) refl h t))
  where
    v : List ℕ
    v = spelling (label_word l)

    here : In (label_name l) ns → In v ns
    here = subst (λ z. In z ns) (sym (label_spelled l))

    there : In v ns → In (label_name l) ns
    there = subst (λ z. In z ns) (label_spelled l)

    forth : (t : Bool) → among ns v ≡ t → FineBy (cond t (flaw 7) fine) T → (In (label_name l) ns → ⊥) × T
    forth true e f = absurd f
    forth false e f = ((λ i. true≢false (sym (in_among ns v (here i)) ∙ e)), f)

    back : (t : Bool) → among ns v ≡ t → (In (label_name l) ns → ⊥) → T → FineBy (cond t (flaw 7) fine) T
    back true e h t = absurd (h (there (among_in ns v e)))
    back false e h t = t

rule_fine : (ns : List (List ℕ)) (r : Rule) → Fine (say_rule ns r) ↔ ((In (rule_name r) ns → ⊥) × RuleKept r)
rule_fine ns (rule l hs a b) =
    let us : List (List ℕ) = gathered head_variables hs in
    let heads : Said = say_heads 3 (binding []) hs in
    let arrow : Said = say_arrow hs a in
    let body : Said = say_body (behind hs a) b in
    let hf = heads_fine 3 [] hs in
    let af = arrow_fine hs a in
    let bf = body_fine (behind hs a) (λ v. In v (rule_variables hs a)) (known_behind hs a) b in
    let lf = label_fine ns l (Fine (heads ++ (arrow ++ (body ++ (sign dot, fine) ∷ [])))) in
    let join = heads_join hs a in
    let room = room_app [] us (arrow_variables a) in
    let six = room_exact (rule_variables hs a) in (
      (λ f.
          let (n, f1) = lf.0 f in
          let (fh, f2) = fine_parts heads _ f1 in
          let (fa, f3) = fine_parts arrow _ f2 in
          let (fb, f4) = fine_parts body _ f3 in
          let (c, p, r) = hf.0 fh in
          let (q, s, g) = af.0 fa in
          (n, (join.0 (c, p, q), six.0 (room.1 (r, s)), g, bf.0 fb))),
      (λ (n, (h, v, g, k)).
          let (c, p, q) = join.1 h in
          let (r, s) = room.0 (six.1 v) in
          lf.1 (n, fine_app heads _ (hf.1 (c, p, r)) (fine_app arrow _ (af.1 (q, s, g)) (fine_app body _ (bf.1 k) tt)))),
    )

-- rules one after the other, each without fault
abbrev FineRules : List (List ℕ) → List Rule → Type 0
FineRules ns [] = Unit {0}
FineRules ns (r ∷ rs) = Fine (say_rule ns r) × FineRules (next_rule ns r) rs

many_forth : (k : ℕ) (ns : List (List ℕ)) (rs : List Rule) → Fine (say_many say_rule next_rule k ns rs) → (length rs ≤ k) × FineRules ns rs
many_forth zero ns [] f = (omega arith, tt)
many_forth zero ns (r ∷ rs) f = absurd (spoiled_bad first_rule 5 (say_rule ns r ++ list_all say_rule next_rule (next_rule ns r) rs) (begins_app first_rule (say_rule ns r) _ ((rule_part ns).opens r)) f)
many_forth (suc k) ns [] f = (omega arith, tt)
many_forth (suc k) ns (r ∷ rs) f =
    let (a, b) = fine_parts (say_rule ns r) _ f in
    let (c, d) = many_forth k (next_rule ns r) rs b in
    (omega (arith, c), (a, d))

many_back : (k : ℕ) (ns : List (List ℕ)) (rs : List Rule) → length rs ≤ k → FineRules ns rs → Fine (say_many say_rule next_rule k ns rs)
many_back zero ns [] h f = tt
many_back zero ns (r ∷ rs) h f = absurd (omega (arith, h))
many_back (suc k) ns [] h f = tt
many_back (suc k) ns (r ∷ rs) h (f, g) = fine_app (say_rule ns r) _ f (many_back k (next_rule ns r) rs (omega (arith, h)) g)

-- no name of the second list stands in the first
abbrev Clear : List (List ℕ) → List (List ℕ) → Type 0
Clear ns ms = (v : List ℕ) → In v ms → In v ns → ⊥

-- a name before others
module _ (ns ms : List (List ℕ)) (n : List ℕ) where
  clear_forth : (In n ns → ⊥) → Clear (ns ++ n ∷ []) ms → Clear ns (n ∷ ms)
  clear_forth h c v (inl e) j = h (subst (λ z. In z ns) (sym e) j)
  clear_forth h c v (inr i) j = c v i (in_left ns (n ∷ []) v j)

  clear_back : Clear ns (n ∷ ms) → (In n ms → ⊥) → Clear (ns ++ n ∷ []) ms
  clear_back c h v i j = go (in_cases ns (n ∷ []) v j)
    where
      go : In v ns ⊎ In v (n ∷ []) → ⊥
      go (inl k) = c v (inr i) k
      go (inr (inl e)) = h (subst (λ z. In z ms) (sym e) i)
      go (inr (inr k)) = k

rules_fine : (ns : List (List ℕ)) (rs : List Rule) → FineRules ns rs ↔ (Clear ns (names rs) × Differ (names rs) × RulesKept rs)
rules_fine ns [] = ((λ f. ((λ v i j. i), tt, tt)), (λ u. tt))
rules_fine ns (rule l hs a b ∷ rs) =
    let n : List ℕ = label_name l in
    let here = rule_fine ns (rule l hs a b) in
    let rec = rules_fine (ns ++ n ∷ []) rs in (
      (λ (f, g).
          let (h, k) = here.0 f in
          let (c, d, e) = rec.0 g in
          (clear_forth ns (names rs) n h c, ((λ i. c n i (in_right ns (n ∷ []) n (inl refl))), d), (k, e))),
      (λ (c, (h, d), (k, e)). (here.1 ((λ j. c n (inl refl) j), k), rec.1 (clear_back ns (names rs) n c h, d, e))),
    )

book_fine : (b : List Rule) → Fine (say_book b) ↔ BookKept b
unfolding say_book
book_fine b =
    let e = rules_fine [] b in (
      (λ f. let (c, g) = many_forth 32 [] b f in let (k, d, h) = e.0 g in (c, d, h)),
      (λ (c, d, h). many_back 32 [] b c (e.1 ((λ v i j. j), d, h))),
    )

pub limits_exact : LimitsExactly
limits_exact = (book_fine, goal_fine)
