-- What the limits of the grammar say of programs and goals. Assumes nothing.
use Rattle.std.proofs.Common.{◌≡◌, ℕ, suc, ◌+◌, ◌*◌, ◌<◌, ◌≤◌, Bool, true, false, cond, eqb, ◌⊎◌, List, [], ◌∷◌, ◌++◌, map, length, Option, sym, refl, ap, ◌∙◌, subst, inl, inr, arith, length-append}
use lib.ListN.{length-map}
use Rattle.std.proofs.lemmas.Bool.{true≢false}
use Rattle.std.specs.declared.option.Option.TheVariants as option
use Rattle.syntax.specs.Parts.{Some, last, more}
use Rattle.syntax.specs.Tree as tree
use Rattle.syntax.specs.Grammar.{Scope, binding, bound, same_name, seal, next_left, next_head, next_all, behind, count}
use Rattle.syntax.specs.Limits as limits
use Rattle.syntax.specs.Limits.{gathered, left_variables, head_variables, rule_variables}
use Rattle.syntax.proofs.Names.{true_same, in_left, in_right, adds, adds_app, adds_differ, adds_new, adds_cases, within_all}
use Rattle.parse.specs.Flaws.{listed}
use Rattle.parse.specs.Model.{Mention}
use Rattle.parse.specs.Model as model
use Rattle.parse.specs.Scopes.{scope_names}
use Rattle.parse.specs.Flat.{index_of, left_term, sum_value, sum_of, argument_term, item_of, content_of, alternative_of, head_mention, head_mentions}
use Rattle.parse.specs.Rules.{rule_model, arrow_model}
use Rattle.book.specs.Predicates.{Predicate}
use Rattle.steps.specs.Program.{Pattern, Rule, Alternative, Item, Occurrence, pattern, numbered_item, numbered_alternative, numbered_rule, goal_items, occurrences_in, occurrences_from}
use Rattle.steps.specs.Relations.{In, here, there, Every, every_none, every_more, InHeads}
use Rattle.transitions.specs.Cells.{KnownTerm, KnownItem}
use Rattle.transitions.proofs.Basics.{in_either}
use Rattle.transitions.proofs.Shelved.{in_map}

-- several, as a list
listed_length : {X : Type 0} (xs : Some X) → length (listed xs) ≡ count xs
listed_length (last x) = refl
listed_length (more x xs) = ap suc (listed_length xs)

pub of_each : {X : Type 0} (P : X → Type 0) (xs : Some X) {x : X} → limits.Each P xs → In x (listed xs) → P x
of_each P (last x) e here = e
of_each P (last x) e (there m) = elim m [ ]
of_each P (more x xs) e here = e.0
of_each P (more x xs) e (there m) = of_each P xs e.1 m

gathered_in : {X : Type 0} (f : X → List (List ℕ)) (xs : Some X) {x : X} (v : List ℕ) → In x (listed xs) → limits.In v (f x) → limits.In v (gathered f xs)
gathered_in f (last x) v here i = i
gathered_in f (last x) v (there m) i = elim m [ ]
gathered_in f (more x xs) v here i = in_left (f x) (gathered f xs) v i
gathered_in f (more x xs) v (there m) i = in_right (f x) (gathered f xs) v (gathered_in f xs v m i)

pub every_all : {X : Type 0} {Q : X → Type 0} (xs : List X) → ((x : X) → In x xs → Q x) → Every Q xs
every_all [] g = every_none
every_all (x ∷ xs) g = every_more (g x here) (every_all xs (λ y m. g y (there m)))

pub every_map : {X Y : Type 0} {Q : Y → Type 0} (f : X → Y) (xs : List X) → ((x : X) → In x xs → Q (f x)) → Every Q (map f xs)
every_map f [] g = every_none
every_map f (x ∷ xs) g = every_more (g x here) (every_map f xs (λ y m. g y (there m)))

-- the cells of items
module _ (known : List ℕ → Type 0) (vs : List (List ℕ)) where
  left_known : (l : tree.Left) → limits.LeftKept known l → KnownTerm 32 (left_term vs l)
  left_known (tree.number n) k = tt
  left_known (tree.cell c) k = omega arith
  left_known (tree.variable v) k = tt

  sum_known : (i : ℕ) (o : Option _) → KnownTerm 32 (sum_of i o)
  sum_known i option.None = tt
  sum_known i (option.Some n) = tt

  argument_known : (a : tree.Argument) → limits.ArgumentKept known a → KnownTerm 32 (argument_term vs a)
  argument_known (tree.held c) k = omega arith
  argument_known (tree.valued (tree.fixed n)) k = tt
  argument_known (tree.valued (tree.summed v s)) k = sum_known (index_of vs v) (sum_value s)

  pub item_known : (ps : List Predicate) (i : tree.Item) → limits.ItemKept known i → KnownItem 32 (numbered_item ps (item_of vs i))
  item_known ps (tree.added (tree.bare p n)) k = every_none
  item_known ps (tree.added (tree.applied p n xs)) k = every_map (argument_term vs) (listed xs) (λ a m. argument_known a (of_each (limits.ArgumentKept known) xs k.1 m))
  item_known ps (tree.told (tree.compared l c r)) k = left_known l k.0
  item_known ps tree.failing k = tt

  -- the items of a content: so many at most, and their cells
  pub content_few : (ps : List Predicate) (most : ℕ) (c : tree.Content) → limits.ContentKept known most c → length (goal_items ps (content_of vs c)) ≤ most
  content_few ps most tree.nil k = omega arith
  content_few ps most (tree.items is) k =
      let a = length-map (map (item_of vs) (listed is)) (numbered_item ps) in
      let b = length-map (listed is) (item_of vs) in
      let c = listed_length is in
      let d = k.0 in
      omega arith

  pub content_known : (ps : List Predicate) (most : ℕ) (c : tree.Content) → limits.ContentKept known most c → (i : Item) → In i (goal_items ps (content_of vs c)) → KnownItem 32 i
  content_known ps most tree.nil k i m = elim m [ ]
  content_known ps most (tree.items is) k i m =
      let a = in_map (numbered_item ps) (map (item_of vs) (listed is)) m in
      let b = in_map (item_of vs) (listed is) a.1 in
      let e : numbered_item ps (item_of vs b.0) ≡ i = ap (numbered_item ps) b.2 ∙ a.2 in
      subst (KnownItem 32) e (item_known ps b.0 (of_each (limits.ItemKept known) is k.1 b.1))

  alternative_few : (ps : List Predicate) (a : tree.Alternative) → limits.AlternativeKept known a → length (numbered_alternative ps (alternative_of vs a)).items ≤ 8
  alternative_few ps (tree.plainly c) k = content_few ps 8 c k
  alternative_few ps (tree.weighted n c) k = content_few ps 8 c k.1

  alternative_known : (ps : List Predicate) (a : tree.Alternative) → limits.AlternativeKept known a → (i : Item) → In i (numbered_alternative ps (alternative_of vs a)).items → KnownItem 32 i
  alternative_known ps (tree.plainly c) k i m = content_known ps 8 c k i m
  alternative_known ps (tree.weighted n c) k i m = content_known ps 8 c k.1 i m

-- the variables of a rule are those of its heads, each once
all_step : {X : Type 0} (next : Scope → X → Scope) (vars : X → List (List ℕ)) → ((vs : List (List ℕ)) (x : X) → next (binding vs) x ≡ binding (adds vs (vars x))) → (vs : List (List ℕ)) (xs : Some X) → next_all next (binding vs) xs ≡ binding (adds vs (gathered vars xs))
all_step next vars step vs (last x) = step vs x
all_step next vars step vs (more x xs) =
    ap (λ (σ : Scope). next_all next σ xs) (step vs x) ∙ all_step next vars step (adds vs (vars x)) xs ∙ ap binding (sym (adds_app vs (vars x) (gathered vars xs)))

left_step : (vs : List (List ℕ)) (l : tree.Left) → next_left (binding vs) l ≡ binding (adds vs (left_variables l))
left_step vs (tree.number n) = refl
left_step vs (tree.cell k) = refl
left_step vs (tree.variable v) = refl

head_step : (vs : List (List ℕ)) (f : tree.Fact tree.Left) → next_head (binding vs) f ≡ binding (adds vs (head_variables f))
head_step vs (tree.bare p n) = refl
head_step vs (tree.applied p n xs) = all_step next_left left_variables left_step vs xs

heads_step : (vs : List (List ℕ)) (hs : Some (tree.Fact tree.Left)) → next_all next_head (binding vs) hs ≡ binding (adds vs (gathered head_variables hs))
heads_step = all_step next_head head_variables head_step

behind_is : (hs : Some (tree.Fact tree.Left)) (a : tree.Arrow) → behind hs a ≡ bound (adds [] (rule_variables hs a))
behind_is hs (tree.propagating g) = ap seal (heads_step [] hs) ∙ ap bound (sym (adds_app [] (gathered head_variables hs) []))
behind_is hs (tree.simplifying g) = ap seal (heads_step [] hs) ∙ ap bound (sym (adds_app [] (gathered head_variables hs) []))
behind_is hs (tree.simpagating rs g) =
    ap (λ (σ : Scope). seal (next_all next_head σ rs)) (heads_step [] hs) ∙ ap seal (heads_step (adds [] (gathered head_variables hs)) rs)
    ∙ ap bound (sym (adds_app [] (gathered head_variables hs) (gathered head_variables rs)))

names_are : (hs : Some (tree.Fact tree.Left)) (a : tree.Arrow) → scope_names (behind hs a) ≡ adds [] (rule_variables hs a)
names_are hs a = ap scope_names (behind_is hs a)

only_new : (us : List (List ℕ)) (v : List ℕ) → limits.In v [] ⊎ limits.In v us → limits.In v us
only_new us v (inl i) = absurd i
only_new us v (inr i) = i

six_names : (us : List (List ℕ)) → limits.AtMostSix us → length (adds [] us) ≤ 6
six_names us k = k (adds [] us) (adds_differ [] us tt) (within_all (adds [] us) us (λ v i. only_new us v (adds_cases [] us v i)))

index_below : (vs : List (List ℕ)) (v : List ℕ) → limits.In v vs → index_of vs v < length vs
index_below [] v i = absurd i
index_below (x ∷ vs) v i = at (same_name x v) refl (λ j. index_below vs v j)
  where
    later : same_name x v ≡ false → (x ≡ v) ⊎ limits.In v vs → limits.In v vs
    later e (inl q) = absurd (true≢false (sym (true_same x v q) ∙ e))
    later e (inr j) = j

    at : (b : Bool) → same_name x v ≡ b → (limits.In v vs → index_of vs v < length vs) → cond b 0 (suc (index_of vs v)) < suc (length vs)
    at true e f = omega arith
    at false e f = let h = f (later e i) in omega arith

-- the number of a head's variable
variable_of : (vs : List (List ℕ)) (l : tree.Left) (i : ℕ) → left_term vs l ≡ model.variable i → (v : List ℕ) × limits.In v (left_variables l) × (index_of vs v ≡ i)
variable_of vs (tree.number n) i e = let z : ◌≡◌ {A = ℕ} 0 1 = cc in absurd (omega arith)
variable_of vs (tree.cell k) i e = let z : ◌≡◌ {A = ℕ} 0 1 = cc in absurd (omega arith)
variable_of vs (tree.variable v) i e = (v, inl refl, cc)

head_variable : (vs : List (List ℕ)) (f : tree.Fact tree.Left) (i : ℕ) → In (model.variable i) (head_mention vs f).arguments → (v : List ℕ) × limits.In v (head_variables f) × (index_of vs v ≡ i)
head_variable vs (tree.bare p n) i m = elim m [ ]
head_variable vs (tree.applied p n xs) i m =
    let a = in_map (left_term vs) (listed xs) m in
    let b = variable_of vs a.0 i a.2 in
    (b.0, gathered_in left_variables xs b.0 a.1 b.1, b.2)

heads_variable : (vs : List (List ℕ)) (hs : Some (tree.Fact tree.Left)) (m : Mention) (i : ℕ) → In m (head_mentions vs hs) → In (model.variable i) m.arguments → (v : List ℕ) × limits.In v (gathered head_variables hs) × (index_of vs v ≡ i)
heads_variable vs hs m i h a =
    let w = in_map (head_mention vs) (listed hs) h in
    let b = head_variable vs w.0 i (subst (λ (z : Mention). In (model.variable i) z.arguments) (sym w.2) a) in
    (b.0, gathered_in head_variables hs b.0 w.1 b.1, b.2)

rule_variable : (vs : List (List ℕ)) (hs : Some (tree.Fact tree.Left)) (a : tree.Arrow) (m : Mention) (i : ℕ) →
    In m (arrow_model vs (head_mentions vs hs) a).kept ⊎ In m (arrow_model vs (head_mentions vs hs) a).removed → In (model.variable i) m.arguments → (v : List ℕ) × limits.In v (rule_variables hs a) × (index_of vs v ≡ i)
rule_variable vs hs (tree.propagating g) m i (inl h) x = let w = heads_variable vs hs m i h x in (w.0, in_left (gathered head_variables hs) [] w.0 w.1, w.2)
rule_variable vs hs (tree.propagating g) m i (inr h) x = elim h [ ]
rule_variable vs hs (tree.simplifying g) m i (inl h) x = elim h [ ]
rule_variable vs hs (tree.simplifying g) m i (inr h) x = let w = heads_variable vs hs m i h x in (w.0, in_left (gathered head_variables hs) [] w.0 w.1, w.2)
rule_variable vs hs (tree.simpagating rs g) m i (inl h) x = let w = heads_variable vs hs m i h x in (w.0, in_left (gathered head_variables hs) (gathered head_variables rs) w.0 w.1, w.2)
rule_variable vs hs (tree.simpagating rs g) m i (inr h) x = let w = heads_variable vs rs m i h x in (w.0, in_right (gathered head_variables hs) (gathered head_variables rs) w.0 w.1, w.2)

pub rule_six : (ps : List Predicate) (t : tree.Rule) → limits.RuleKept t → (i : ℕ) → InHeads i (numbered_rule ps (rule_model t)).heads → i < 6
rule_six ps (tree.rule l hs a b) k i h =
    let vs : List (List ℕ) = scope_names (behind hs a) in
    let us : List (List ℕ) = rule_variables hs a in
    let w = in_map (pattern ps) ((arrow_model vs (head_mentions vs hs) a).kept ++ (arrow_model vs (head_mentions vs hs) a).removed) h.1 in
    let x : In (model.variable i) w.0.arguments = subst (λ (z : Pattern). In (model.variable i) z.arguments) (sym w.2) h.2 in
    let v = rule_variable vs hs a w.0 i (in_either (arrow_model vs (head_mentions vs hs) a).kept w.1) x in
    let n : length vs ≡ length (adds [] us) = ap length (names_are hs a) in
    let m : limits.In v.0 vs = subst (limits.In v.0) (sym (names_are hs a)) (adds_new [] us v.0 v.1) in
    let c = index_below vs v.0 m in
    let d = six_names us k.1 in
    let e = v.2 in
    omega arith

-- at most 3 heads
pub rule_heads : (ps : List Predicate) (t : tree.Rule) → limits.RuleKept t → length (numbered_rule ps (rule_model t)).heads ≤ 3
rule_heads ps (tree.rule l hs a b) k =
    let vs : List (List ℕ) = scope_names (behind hs a) in
    let m = arrow_model vs (head_mentions vs hs) a in
    let c : length (map (pattern ps) (m.kept ++ m.removed)) ≡ length (m.kept ++ m.removed) = length-map (m.kept ++ m.removed) (pattern ps) in
    let d : length (m.kept ++ m.removed) ≡ length m.kept + length m.removed = length-append m.kept m.removed in
    let e = arrow-heads vs a k.0 in
    omega arith
  where
    several : (vs : List (List ℕ)) (gs : Some (tree.Fact tree.Left)) → length (head_mentions vs gs) ≡ count gs
    several vs gs = length-map (listed gs) (head_mention vs) ∙ listed_length gs

    arrow-heads : (vs : List (List ℕ)) (a : tree.Arrow) → limits.HeadsKept hs a → length (arrow_model vs (head_mentions vs hs) a).kept + length (arrow_model vs (head_mentions vs hs) a).removed ≤ 3
    arrow-heads vs (tree.propagating g) k = let c = several vs hs in let d = k.0 in omega arith
    arrow-heads vs (tree.simplifying g) k = let c = several vs hs in let d = k.0 in omega arith
    arrow-heads vs (tree.simpagating rs g) k = let c = several vs hs in let d = several vs rs in let e = k.0 in omega arith

-- an alternative of a rule
of_body : (ps : List Predicate) (t : tree.Rule) (a : Alternative) → limits.RuleKept t → In a (numbered_rule ps (rule_model t)).body → (length a.items ≤ 8) × ((i : Item) → In i a.items → KnownItem 32 i)
of_body ps (tree.rule l hs r b) a k m =
    let vs : List (List ℕ) = scope_names (behind hs r) in
    let known : List ℕ → Type 0 = λ v. limits.In v (rule_variables hs r) in
    let w = in_map (numbered_alternative ps) (map (alternative_of vs) (listed b)) m in
    let u = in_map (alternative_of vs) (listed b) w.1 in
    let e : numbered_alternative ps (alternative_of vs u.0) ≡ a = ap (numbered_alternative ps) u.2 ∙ w.2 in
    let c : limits.AlternativeKept known u.0 = of_each (limits.AlternativeKept known) b k.3.1 u.1 in
    subst (λ (z : Alternative). (length z.items ≤ 8) × ((i : Item) → In i z.items → KnownItem 32 i)) e (alternative_few known vs ps u.0 c, alternative_known known vs ps u.0 c)

pub rule_items : (ps : List Predicate) (t : tree.Rule) (a : Alternative) → limits.RuleKept t → In a (numbered_rule ps (rule_model t)).body → length a.items ≤ 8
rule_items ps t a k m = (of_body ps t a k m).0

pub rule_known : (ps : List Predicate) (t : tree.Rule) (a : Alternative) (i : Item) → limits.RuleKept t → In a (numbered_rule ps (rule_model t)).body → In i a.items → KnownItem 32 i
rule_known ps t a i k m n = (of_body ps t a k m).1 i n

-- occurrences
in_few : (p r h : ℕ) (qs : List Pattern) → length (occurrences_in p r h qs) ≤ length qs
in_few p r h [] = omega arith
in_few p r h (q ∷ qs) = at (eqb p q.predicate) (in_few p r (suc h) qs)
  where
    at : (b : Bool) → length (occurrences_in p r (suc h) qs) ≤ length qs → length {A = Occurrence} (elim b [ true ↦ occurrences_in p r (suc h) qs ++ (record { rule = r; head = h } ∷ []) | false ↦ occurrences_in p r (suc h) qs ]) ≤ suc (length qs)
    at true l = let e = length-append (occurrences_in p r (suc h) qs) (record { rule = r; head = h } ∷ []) in omega arith
    at false l = omega arith

pub from_few : (p r : ℕ) (xs : List Rule) → Every (λ x. length x.heads ≤ 3) xs → length (occurrences_from p r xs) ≤ 3 * length xs
from_few p r [] every_none = omega arith
from_few p r (x ∷ xs) (every_more l ls) =
    let e = length-append (occurrences_in p r 0 x.heads) (occurrences_from p (suc r) xs) in
    let a = in_few p r 0 x.heads in
    let b = from_few p (suc r) xs ls in
    omega arith

-- a rule among those kept
pub kept_rule : (ts : List tree.Rule) {t : tree.Rule} → limits.RulesKept ts → In t ts → limits.RuleKept t
kept_rule [] k m = elim m [ ]
kept_rule (t ∷ ts) k here = k.0
kept_rule (t ∷ ts) k (there m) = kept_rule ts k.1 m
