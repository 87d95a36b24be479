-- Accepted texts keep the limits of the grammar, and so do the program and the goal that they give. Assumes nothing.
use Rattle.std.proofs.Common.{◌≡◌, ℕ, ◌≤◌, Bool, true, false, cond, leb, List, [], ◌∷◌, map, length, Ok, Err, sym, refl, ap, ◌∙◌, subst, arith}
use lib.ListN.{length-map}
use Rattle.syntax.specs.Syntax.{W, sign, fine, Said, Out, ok, barred, flawed, Reader}
use Rattle.syntax.specs.Marks.{comma, dot, close_mark}
use Rattle.syntax.specs.Tree as tree
use Rattle.syntax.specs.Exact.{Accepts, Exact}
use Rattle.syntax.specs.Grammar.{closed, same, say_left, say_right, say_argument, say_item, say_content, telling_code, say_book, say_goal}
use Rattle.syntax.specs.Parts.{say_parts}
use Rattle.syntax.specs.Limits as limits
use Rattle.syntax.specs.Limits.{BookKept, GoalKept}
use Rattle.syntax.specs.Marking.{marked}
use Rattle.syntax.specs.Readers.{read_book, read_goal}
use Rattle.syntax.proofs.Books.{book_exact, goal_exact}
use Rattle.syntax.proofs.Limits.{limits_exact}
use Rattle.parse.specs.Flaws.{listed}
use Rattle.parse.specs.Flat.{left_term, argument_term, item_of, content_of}
use Rattle.parse.specs.Model as model
use Rattle.parse.specs.Rules.{rule_model}
use Rattle.parse.specs.Rules as written
use Rattle.lexed.specs.Texts.{Ending}
use Rattle.lexed.specs.Texts.{text_words, raw_words, word_places}
use Rattle.book.specs.declared.faults.Layer.TheVariants as layer
use Rattle.book.specs.Mentions.{in_rules, in_items}
use Rattle.book.specs.Predicates.{Predicate, Listing, these, excess, listing, Unknowns, all_known, unknown_at, unknowns}
use Rattle.book.specs.Reading.{Book, Refusal, refusal, Verdict, accepted, refused, judged, judged_text, with_predicates, book_meaning, book_of, with_known, goal_meaning, goal_of}
use Rattle.steps.specs.Program.{Program, Rule, numbered_item, numbered_rule, program_of, goal_items}
use Rattle.steps.specs.Relations.{In, Every, every_none, every_more, InHeads}
use Rattle.transitions.specs.Goals.{PlainNumber, PlainTerm, PlainItem, PlainGoal}
use Rattle.transitions.specs.Texts.{FitProgram, FitGoal, TextsFit}
use Rattle.transitions.proofs.Numbers.{SmallSaid, words_small, said_left, said_right, said_rest, said_part, number_within}
use Rattle.transitions.proofs.Shelved.{in_map}
use Rattle.transitions.proofs.Trees.{of_each, every_all, every_map, content_few, content_known, rule_six, rule_heads, rule_items, rule_known, from_few, kept_rule}

accepted_same : {X : Type 0} {a b : X} → accepted a ≡ accepted b → a ≡ b
accepted_same e = cc

no_accepted : {X Y : Type 0} {a : X} {r : Refusal} → ◌≡◌ {A = Verdict X} (refused r) (accepted a) → Y
no_accepted e = let z : ◌≡◌ {A = ℕ} 0 1 = cc in absurd (omega arith)

-- what is accepted was read
judged_ok : {X Y : Type 0} (meaning : X → Verdict Y) (places : List ℕ) (end : Ending) (o : Out X) (y : Y) → judged meaning places end o ≡ accepted y → (x : X) × (r : List W) × (o ≡ ok x r) × (meaning x ≡ accepted y)
judged_ok meaning places (Ok n) (ok x r) y e = (x, r, refl, e)
judged_ok meaning places (Err f) (ok x r) y e = no_accepted e
judged_ok meaning places end (barred []) y e = no_accepted e
judged_ok meaning places end (barred (w ∷ r)) y e = no_accepted e
judged_ok meaning places end (flawed n w r) y e = no_accepted e

text_ok : {X Y : Type 0} (meaning : X → Verdict Y) (most : ℕ) (read : Reader X) (text : List ℕ) (y : Y) → judged_text meaning most read text ≡ accepted y →
    (x : X) × (r : List W) × (read (marked (raw_words text)) ≡ ok x r) × (meaning x ≡ accepted y)
text_ok {X} {Y} meaning most read text y e = at (leb (length text) most) e
  where
    at : (b : Bool) → cond b (judged meaning (word_places text) (text_words text).1 (read (marked (raw_words text)))) (refused (refusal 1 most layer.Letters)) ≡ accepted y → (x : X) × (r : List W) × (read (marked (raw_words text)) ≡ ok x r) × (meaning x ≡ accepted y)
    at true e = judged_ok meaning (word_places text) (text_words text).1 (read (marked (raw_words text))) y e
    at false e = no_accepted e

-- and is spelled by its words, none with a fault
spelled_by : {X : Type 0} (read : Reader X) (say : X → Said) (ws : List W) → Exact read say ws → (x : X) (r : List W) → read ws ≡ ok x r → Accepts say ws x
spelled_by read say ws exact x r e = (exact.accepts x).0 (e ∙ ap (λ (q : List W). ok x q) (exact.whole x r e))

with_rules : (rs : List written.Rule) (l : Listing) (b : Book) → with_predicates rs l ≡ accepted b → b.rules ≡ rs
with_rules rs (these ps) b e = ap (λ (z : Book). z.rules) (sym (accepted_same e))
with_rules rs (excess p) b e = no_accepted e

book_read : (text : List ℕ) (b : Book) → book_of text ≡ accepted b → (ts : List tree.Rule) × (b.rules ≡ map rule_model ts) × BookKept ts
unfolding book_of
book_read text b e =
    let w = text_ok book_meaning 8192 read_book text b e in
    let a = spelled_by read_book say_book (marked (raw_words text)) (book_exact (marked (raw_words text))) w.0 w.1 w.2 in
    (w.0, with_rules (map rule_model w.0) (listing [] (in_rules (map rule_model w.0))) b w.3, (limits_exact.0 w.0).0 a.1)

-- a rule of the program is one of the text
of_text : (ps : List Predicate) (ts : List tree.Rule) (x : Rule) → limits.RulesKept ts → In x (map (numbered_rule ps) (map rule_model ts)) → (t : tree.Rule) × limits.RuleKept t × (numbered_rule ps (rule_model t) ≡ x)
of_text ps ts x k m =
    let a = in_map (numbered_rule ps) (map rule_model ts) m in
    let b = in_map rule_model ts a.1 in
    (b.0, kept_rule ts k b.1, ap (numbered_rule ps) b.2 ∙ a.2)

fits : (ps : List Predicate) (ts : List tree.Rule) → BookKept ts → FitProgram (map (numbered_rule ps) (map rule_model ts))
fits ps ts k = record {
  six = λ x i m h. let t = of_text ps ts x k.2 m in rule_six ps t.0 t.1 i (subst (λ (z : Rule). InHeads i z.heads) (sym t.2) h);
  known = λ x a i m n o. let t = of_text ps ts x k.2 m in rule_known ps t.0 a i t.1 (subst (λ (z : Rule). In a z.body) (sym t.2) n) o;
  small = record {
    few_occurrences = λ p. let l = from_few p 0 P three in let m = long in let n = k.0 in omega arith;
    few_items = λ x a m n. let t = of_text ps ts x k.2 m in rule_items ps t.0 a t.1 (subst (λ (z : Rule). In a z.body) (sym t.2) n);
  };
}
  where
    P : Program
    P = map (numbered_rule ps) (map rule_model ts)

    long : length P ≡ length ts
    long = length-map (map rule_model ts) (numbered_rule ps) ∙ length-map ts rule_model

    three : Every (λ x. length x.heads ≤ 3) P
    three = every_all P (λ x m. let t = of_text ps ts x k.2 m in subst (λ (z : Rule). length z.heads ≤ 3) t.2 (rule_heads ps t.0 t.1))

books : (text : List ℕ) (b : Book) → book_of text ≡ accepted b → FitProgram (program_of b)
books text b e =
    let w = book_read text b e in
    subst (λ (rs : List written.Rule). FitProgram (map (numbered_rule b.predicates) rs)) (sym w.1) (fits b.predicates w.0 w.2)

-- goals
with_items : (is : List model.Item) (u : Unknowns) (js : List model.Item) → with_known is u ≡ accepted js → js ≡ is
with_items is all_known js e = sym (accepted_same e)
with_items is (unknown_at p) js e = no_accepted e

goal_read : (ps : List Predicate) (text : List ℕ) (is : List model.Item) → goal_of ps text ≡ accepted is → (c : tree.Content) × (is ≡ content_of [] c) × GoalKept c × SmallSaid (say_goal c)
unfolding goal_of
goal_read ps text is e =
    let w = text_ok (goal_meaning ps) 1024 read_goal text is e in
    let a = spelled_by read_goal say_goal (marked (raw_words text)) (goal_exact (marked (raw_words text))) w.0 w.1 w.2 in
    (w.0, with_items (content_of [] w.0) (unknowns ps (in_items (content_of [] w.0))) is w.3, (limits_exact.1 w.0).0 a.1, subst (Every _) (sym a.0) (words_small text))

-- nothing may stand for a variable
abbrev NoVariable : List ℕ → Type 0
NoVariable v = ⊥

left_plain : (l : tree.Left) → limits.LeftKept NoVariable l → SmallSaid (say_left closed l) → PlainTerm (left_term [] l)
left_plain (tree.number n) k s = number_within n s
left_plain (tree.cell c) k s = tt
left_plain (tree.variable v) k s = absurd k

right_plain : (r : tree.Right) → limits.RightKept NoVariable r → SmallSaid (say_right closed r) → PlainNumber (argument_term [] (tree.valued r))
right_plain (tree.fixed n) k s = number_within n s
right_plain (tree.summed v t) k s = absurd k

argument_plain : (a : tree.Argument) → limits.ArgumentKept NoVariable a → SmallSaid (say_argument closed a) → PlainTerm (argument_term [] a)
argument_plain (tree.held c) k s = tt
argument_plain (tree.valued (tree.fixed n)) k s = number_within n s
argument_plain (tree.valued (tree.summed v t)) k s = absurd k

item_plain : (ps : List Predicate) (i : tree.Item) → limits.ItemKept NoVariable i → SmallSaid (say_item closed i) → PlainItem (numbered_item ps (item_of [] i))
item_plain ps (tree.added (tree.bare p n)) k s = every_none
item_plain ps (tree.added (tree.applied p n xs)) k (every_more a (every_more b s)) =
    every_map (argument_term []) (listed xs) (λ x m. argument_plain x (of_each (limits.ArgumentKept NoVariable) xs k.1 m)
    (said_part comma say_argument closed 3 xs k.0 (said_left (say_parts comma say_argument same 3 closed xs) ((sign close_mark, fine) ∷ []) s) m))
item_plain ps (tree.told (tree.compared l c r)) k s = (
  left_plain l k.0 (said_left (say_left closed l) ((sign (telling_code c), fine) ∷ say_right closed r) s),
  right_plain r k.1 (said_rest (sign (telling_code c), fine) (say_right closed r) (said_right (say_left closed l) ((sign (telling_code c), fine) ∷ say_right closed r) s)),
)
item_plain ps tree.failing k s = tt

content_plain : (ps : List Predicate) (c : tree.Content) → GoalKept c → SmallSaid (say_content 16 closed c) → PlainGoal (goal_items ps (content_of [] c))
content_plain ps tree.nil k s = every_none
content_plain ps (tree.items is) k s =
    every_all (goal_items ps (content_of [] (tree.items is))) (λ i m.
    let a = in_map (numbered_item ps) (map (item_of []) (listed is)) m in
    let b = in_map (item_of []) (listed is) a.1 in
    let e : numbered_item ps (item_of [] b.0) ≡ i = ap (numbered_item ps) b.2 ∙ a.2 in
    subst PlainItem e (item_plain ps b.0 (of_each (limits.ItemKept NoVariable) is k.1 b.1) (said_part comma say_item closed 16 is k.0 s b.1)))

goal_fits : (ps : List Predicate) (c : tree.Content) → GoalKept c → SmallSaid (say_goal c) → FitGoal (goal_items ps (content_of [] c))
unfolding say_goal
goal_fits ps c k (every_more a s) = record {
  few = content_few NoVariable [] ps 16 c k;
  known = every_all (goal_items ps (content_of [] c)) (content_known NoVariable [] ps 16 c k);
  plain = content_plain ps c k (said_left (say_content 16 closed c) ((sign dot, fine) ∷ []) s);
}

goals : (ps : List Predicate) (text : List ℕ) (is : List model.Item) → goal_of ps text ≡ accepted is → FitGoal (goal_items ps is)
goals ps text is e =
    let w = goal_read ps text is e in
    subst (λ (js : List model.Item). FitGoal (goal_items ps js)) (sym w.1) (goal_fits ps w.0 w.2 w.3)

pub texts_fit : TextsFit
texts_fit = record { books = books; goals = goals }
