-- Parts in a row, over any readers: all are read, or the first that is not decides. Assumes nothing.
use Rattle.std.proofs.Common.{◌≡◌, ℕ, true, false, List, [], ◌∷◌}
use Rattle.syntax.specs.Syntax.{W, kind, sign, ahead, ok, barred, Reader, both, via, fork, nothing, only_end}
use Rattle.syntax.specs.Parts.{Some, mark}
use Rattle.syntax.specs.Tree.{Left, Right, Relation, Telling, Comparison, compared, Fact, bare, applied, Argument, Item, added, told, Content, items, Alternative, plainly, weighted, Guard, guarded, Arrow, propagating, simplifying, simpagating, Label, Rule, rule}
use Rattle.syntax.specs.Readers.{name_kind, weight_kind, comparison_of, fact_of, item_of, content_of, alternative_of, guard_of, arrow_of, rule_of, goal_of, on_mark, behind_mark}
use Rattle.syntax.specs.Marks.{open_mark, close_mark, fail_word, true_word, colon, bar, backslash, at_mark, dot, ask}
use Rattle.syntax.specs.Grammar.{Scope}
use Rattle.parse.specs.declared.flaw.Flaw.{Flaw}
use Rattle.parse.specs.Flaws.{Faulted}
use Rattle.parse.proofs.Faults.{led}

-- a comparison
module _ {R : Type 0} (a : Reader Left) (b : Reader R) (c : Reader Right) where
  abbrev row : Reader (Comparison R)
  row = via comparison_of (both a (λ _. both b (λ _. c)))

  module _ (l : List W) {m : List W} {x : Left} (first : a l ≡ ok x m) where
    module _ {n : List W} {y : R} (second : b m ≡ ok y n) where
      pub comparison_third : {ws : List W} {f : Flaw} → Faulted ws f (c n) → Faulted ws f (row l)
      comparison_third e = led e (λ r g. simp (first, second, g)) (λ n w r g. simp (first, second, g))

      pub comparison_all : {r : List W} {z : Right} → c n ≡ ok z r → row l ≡ ok (compared x y z) r
      comparison_all third = simp (first, second, third)

-- a fact
module _ {A : Type 0} (read : Scope → Reader A) (next : Scope → A → Scope) (a : Reader (ℕ × List ℕ)) (args : Reader (Some A)) where
  abbrev fact : Reader (Fact A)
  fact = via (fact_of read next) (both a (λ _. on_mark open_mark (both args (λ _. mark close_mark)) nothing))

  module _ (l : List W) {m : List W} {p : ℕ} {s : List ℕ} (named : a l ≡ ok (p, s) m) where
    pub fact_bare : ahead (kind (sign open_mark) ∷ []) m ≡ false → fact l ≡ ok (bare p s) m
    fact_bare h = simp (named, h)

    module _ {n : List W} (h : ahead (kind (sign open_mark) ∷ []) m ≡ true) (opened : mark open_mark m ≡ ok tt n) where
      pub fact_arguments : {ws : List W} {f : Flaw} → Faulted ws f (args n) → Faulted ws f (fact l)
      fact_arguments e = led e (λ r g. simp (named, h, opened, g)) (λ n w r g. simp (named, h, opened, g))

      module _ {k : List W} {xs : Some A} (given : args n ≡ ok xs k) where
        pub fact_close : {ws : List W} {f : Flaw} → Faulted ws f (mark close_mark k) → Faulted ws f (fact l)
        fact_close e = led e (λ r g. simp (named, h, opened, given, g)) (λ n w r g. simp (named, h, opened, given, g))

        pub fact_all : {r : List W} → mark close_mark k ≡ ok tt r → fact l ≡ ok (applied p s xs) r
        fact_all closed = simp (named, h, opened, given, closed)

-- an item
module _ (a : Reader (Fact Argument)) (b : Reader (Comparison Telling)) where
  abbrev item : Reader Item
  item = via item_of (fork (name_kind ∷ []) a (fork (kind (sign fail_word) ∷ []) (mark fail_word) b))

  pub item_fact : (l : List W) → ahead (name_kind ∷ []) l ≡ true → {r : List W} {x : Fact Argument} → a l ≡ ok x r → item l ≡ ok (added x) r
  item_fact l h e = simp (h, e)

  module _ (l : List W) (h : ahead (name_kind ∷ []) l ≡ false) (k : ahead (kind (sign fail_word) ∷ []) l ≡ false) where
    pub item_told : {r : List W} {x : Comparison Telling} → b l ≡ ok x r → item l ≡ ok (told x) r
    item_told e = simp (h, k, e)

-- the content of an alternative or goal
module _ (a : Reader (Some Item)) where
  abbrev content : Reader Content
  content = via content_of (fork (kind (sign true_word) ∷ []) (mark true_word) a)

  module _ (l : List W) (h : ahead (kind (sign true_word) ∷ []) l ≡ false) where
    pub content_led : {ws : List W} {f : Flaw} → Faulted ws f (a l) → Faulted ws f (content l)
    content_led e = led e (λ r g. simp (h, g)) (λ n w r g. simp (h, g))

    pub content_items : {r : List W} {x : Some Item} → a l ≡ ok x r → content l ≡ ok (items x) r
    content_items e = simp (h, e)

-- an alternative
module _ (a : Reader ℕ) (b : Reader Content) where
  abbrev alternative : Reader Alternative
  alternative = via alternative_of (fork (weight_kind ∷ []) (both a (λ _. behind_mark colon b)) b)

  module _ (l : List W) (h : ahead (weight_kind ∷ []) l ≡ false) where
    pub plain_all : {r : List W} {x : Content} → b l ≡ ok x r → alternative l ≡ ok (plainly x) r
    plain_all e = simp (h, e)

  module _ (l : List W) (h : ahead (weight_kind ∷ []) l ≡ true) where
    module _ {m : List W} {n : ℕ} (first : a l ≡ ok n m) where
      module _ {k : List W} (second : mark colon m ≡ ok tt k) where
        pub weighted_all : {r : List W} {x : Content} → b k ≡ ok x r → alternative l ≡ ok (weighted n x) r
        weighted_all e = simp (h, first, second, e)

-- an arrow with its guard
module _ (plain guarding : ℕ) (a : Reader (Some (Comparison Relation))) where
  abbrev guard : Reader Guard
  guard = via guard_of (on_mark guarding (both a (λ _. mark bar)) (mark plain))

  module _ (l : List W) {m : List W} (h : ahead (kind (sign guarding) ∷ []) l ≡ true) (first : mark guarding l ≡ ok tt m) where
    pub askings_led : {ws : List W} {f : Flaw} → Faulted ws f (a m) → Faulted ws f (guard l)
    askings_led e = led e (λ r g. simp (h, first, g)) (λ n w r g. simp (h, first, g))

    module _ {n : List W} {x : Some (Comparison Relation)} (second : a m ≡ ok x n) where
      pub bar_led : {ws : List W} {f : Flaw} → Faulted ws f (mark bar n) → Faulted ws f (guard l)
      bar_led e = led e (λ r g. simp (h, first, second, g)) (λ n w r g. simp (h, first, second, g))

      pub guarded_all : {r : List W} → mark bar n ≡ ok tt r → guard l ≡ ok (guarded x) r
      guarded_all e = simp (h, first, second, e)

-- what stands between the first heads and the body
module _ (ks : List ℕ) (a : Reader (Some (Fact Left))) (g : Some (Fact Left) → Reader Guard) (p q : Reader Guard) where
  abbrev arrow : Reader Arrow
  arrow = via arrow_of (on_mark backslash (both a g) (fork ks p q))

  module _ (l : List W) {m : List W} (h : ahead (kind (sign backslash) ∷ []) l ≡ true) (first : mark backslash l ≡ ok tt m) where
    pub removed_led : {ws : List W} {f : Flaw} → Faulted ws f (a m) → Faulted ws f (arrow l)
    removed_led e = led e (λ r g. simp (h, first, g)) (λ n w r g. simp (h, first, g))

    module _ {n : List W} {rs : Some (Fact Left)} (second : a m ≡ ok rs n) where
      pub simpagating_led : {ws : List W} {f : Flaw} → Faulted ws f (g rs n) → Faulted ws f (arrow l)
      simpagating_led e = led e (λ r g. simp (h, first, second, g)) (λ n w r g. simp (h, first, second, g))

      pub simpagating_all : {r : List W} {x : Guard} → g rs n ≡ ok x r → arrow l ≡ ok (simpagating rs x) r
      simpagating_all e = simp (h, first, second, e)

  module _ (l : List W) (h : ahead (kind (sign backslash) ∷ []) l ≡ false) where
    module _ (k : ahead ks l ≡ true) where
      pub propagating_all : {r : List W} {x : Guard} → p l ≡ ok x r → arrow l ≡ ok (propagating x) r
      propagating_all e = simp (h, k, e)

    module _ (k : ahead ks l ≡ false) where
      pub simplifying_all : {r : List W} {x : Guard} → q l ≡ ok x r → arrow l ≡ ok (simplifying x) r
      simplifying_all e = simp (h, k, e)

-- a rule
module _ (a : Reader Label) (h : Reader (Some (Fact Left))) (w : Some (Fact Left) → Reader Arrow) (b : Some (Fact Left) → Arrow → Reader (Some Alternative)) where
  abbrev rule_row : Reader Rule
  rule_row = via rule_of (both a (λ _. behind_mark at_mark (both h (λ hs. both (w hs) (λ x. both (b hs x) (λ _. mark dot))))))

  module _ (l : List W) {m : List W} {x : Label} (first : a l ≡ ok x m) where
    module _ {n : List W} (second : mark at_mark m ≡ ok tt n) where
      pub heads_led : {ws : List W} {f : Flaw} → Faulted ws f (h n) → Faulted ws f (rule_row l)
      heads_led e = led e (λ r g. simp (first, second, g)) (λ n w r g. simp (first, second, g))

      module _ {k : List W} {hs : Some (Fact Left)} (third : h n ≡ ok hs k) where
        pub tail_led : {ws : List W} {f : Flaw} → Faulted ws f (w hs k) → Faulted ws f (rule_row l)
        tail_led e = led e (λ r g. simp (first, second, third, g)) (λ n w r g. simp (first, second, third, g))

        module _ {j : List W} {y : Arrow} (fourth : w hs k ≡ ok y j) where
          pub body_led : {ws : List W} {f : Flaw} → Faulted ws f (b hs y j) → Faulted ws f (rule_row l)
          body_led e = led e (λ r g. simp (first, second, third, fourth, g)) (λ n w r g. simp (first, second, third, fourth, g))

          module _ {i : List W} {z : Some Alternative} (fifth : b hs y j ≡ ok z i) where
            pub dot_led : {ws : List W} {f : Flaw} → Faulted ws f (mark dot i) → Faulted ws f (rule_row l)
            dot_led e = led e (λ r g. simp (first, second, third, fourth, fifth, g)) (λ n w r g. simp (first, second, third, fourth, fifth, g))

            pub rule_all : {r : List W} → mark dot i ≡ ok tt r → rule_row l ≡ ok (rule x hs y z) r
            rule_all e = simp (first, second, third, fourth, fifth, e)

-- a goal
module _ (a : Reader Content) where
  abbrev goal_row : Reader Content
  goal_row = via goal_of (behind_mark ask (both a (λ _. behind_mark dot only_end)))

  pub ask_led : (l : List W) {ws : List W} {f : Flaw} → Faulted ws f (mark ask l) → Faulted ws f (goal_row l)
  ask_led l e = led e (λ r g. simp g) (λ n w r g. simp g)

  module _ (l : List W) {m : List W} (first : mark ask l ≡ ok tt m) where
    pub goal_led : {ws : List W} {f : Flaw} → Faulted ws f (a m) → Faulted ws f (goal_row l)
    goal_led e = led e (λ r g. simp (first, g)) (λ n w r g. simp (first, g))

    module _ {n : List W} {x : Content} (second : a m ≡ ok x n) where
      pub stop_led : {ws : List W} {f : Flaw} → Faulted ws f (mark dot n) → Faulted ws f (goal_row l)
      stop_led e = led e (λ r g. simp (first, second, g)) (λ n w r g. simp (first, second, g))

      module _ {k : List W} (third : mark dot n ≡ ok tt k) where
        pub goal_more : (w : W) (r : List W) → k ≡ w ∷ r → goal_row l ≡ barred k
        goal_more w r e = simp (first, second, third, e)

        pub goal_all : k ≡ [] → goal_row l ≡ ok x []
        goal_all e = simp (first, second, third, e)
