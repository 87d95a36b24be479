-- The loop over the rules of a book. Assumes nothing.
use Rattle.std.proofs.Common.{◌≡◌, ℕ, zero, suc, ◌+◌, ◌-◌, ◌<◌, ◌≤◌, List, [], ◌∷◌, ◌++◌, map, IsErrAnd, Result, Vec, sym, refl, ap, ◌∙◌, subst, inl, append_assoc, arith}
use Rattle.std.proofs.lemmas.List.{map_push, append-nil}
use Rattle.std.proofs.lemmas.Result.{err_from_is_err_and}
use Rattle.std.specs.declared.alloc.Global.{Global}
use Rattle.syntax.specs.Syntax.{W, Out, ok, barred, flawed, after, mapped, over}
use Rattle.syntax.specs.Parts.{many, list_of}
use Rattle.syntax.specs.Tree as tree
use Rattle.syntax.specs.Grammar.{next_rule}
use Rattle.syntax.specs.Readers.{first_rule, read_rule}
use Rattle.syntax.proofs.Steps.{then, many_step}
use Rattle.parse.specs.declared.flaw.Flaw.{Flaw}
use Rattle.parse.specs.declared.tree.Rule.{Rule as CodeRule}
use Rattle.parse.specs.declared.tree.Item.{Item}
use Rattle.parse.specs.declared.tree.Mention.{Mention}
use Rattle.parse.specs.Flaws.{Faulted}
use Rattle.parse.specs.Rules.{Rule, rule_model}
use Rattle.parse.specs.Whole.{BookTold, GoalTold}
use Rattle.parse.proofs.Faults.{led}

-- what is still to read after so many rules
unfoldable pub left_to_read : ℕ → List (List ℕ) → List W → Out (List tree.Rule)
left_to_read turn = many first_rule read_rule next_rule (32 - turn)

pub record Collects (final : Out (List tree.Rule)) (turn : ℕ) (ns : List (List ℕ)) (l : List W) (ms : List Rule) : Type 0 where
  pub read : List tree.Rule
  pub come : map rule_model read ≡ ms
  pub reading : mapped (λ xs. read ++ xs) (left_to_read turn ns l) ≡ final

mapped_nil : {X : Type 0} (o : Out (List X)) → mapped (λ xs. [] ++ xs) o ≡ o
mapped_nil (ok x r) = refl
mapped_nil (barred r) = refl
mapped_nil (flawed n w r) = refl

pub collects_none : (ns : List (List ℕ)) (l : List W) (ms : List Rule) (final : Out (List tree.Rule)) → [] ≡ ns → [] ≡ ms → many first_rule read_rule next_rule 32 [] l ≡ final → Collects final 0 ns l ms
unfolding left_to_read
collects_none ns l ms final n m f = record { read = []; come = m; reading = mapped_nil (left_to_read 0 ns l) ∙ ap (λ v. many first_rule read_rule next_rule 32 v l) (sym n) ∙ f }

-- the exit of a `?`
pub exit_book : {ws : List W} {o : Out (List tree.Rule)} {f : Flaw} (r : Result (Vec CodeRule Global) Flaw) → IsErrAnd r (λ y. y ≡ f) → Faulted ws f o → BookTold ws r o
exit_book {ws = ws} {o = o} r e h = let p = err_from_is_err_and r e in subst (λ x. BookTold ws x o) (sym p.1) (subst (λ y. Faulted ws y o) (sym p.2) h)

pub exit_goal : {ws : List W} {o : Out tree.Content} {f : Flaw} (r : Result (Vec (Item Mention) Global) Flaw) → IsErrAnd r (λ y. y ≡ f) → Faulted ws f o → GoalTold ws r o
exit_goal {ws = ws} {o = o} r e h = let p = err_from_is_err_and r e in subst (λ x. GoalTold ws x o) (sym p.1) (subst (λ y. Faulted ws y o) (sym p.2) h)

many_none : (k : ℕ) (ns : List (List ℕ)) → many first_rule read_rule next_rule k ns [] ≡ ok [] []
many_none zero ns = refl
many_none (suc k) ns = refl

joined : (a : List tree.Rule) (x : tree.Rule) (o : Out (List tree.Rule)) → mapped (λ xs. a ++ xs) (mapped (λ xs. x ∷ xs) o) ≡ mapped (λ xs. (a ++ x ∷ []) ++ xs) o
joined a x (ok y r) = ap (λ l. ok l r) (sym (append_assoc a (x ∷ []) y))
joined a x (barred r) = refl
joined a x (flawed n w r) = refl

module _ {final : Out (List tree.Rule)} {turn : ℕ} {ns : List (List ℕ)} {l : List W} {ms : List Rule} (so : Collects final turn ns l ms) where
  pub collects_end : l ≡ [] → (y : List tree.Rule) × (map rule_model y ≡ ms) × (final ≡ ok y [])
  unfolding left_to_read
  collects_end e = (so.read, so.come, sym so.reading ∙ ap (λ t. mapped (λ xs. so.read ++ xs) (left_to_read turn ns t)) e ∙ ap (mapped (λ xs. so.read ++ xs)) (many_none (32 - turn) ns) ∙ ap (λ t. ok t []) (append-nil so.read))

  module _ (w : W) (r : List W) (word : l ≡ w ∷ r) where
    pub collects_over : 32 ≤ turn → (ws : List W) (f : Flaw) → Faulted {X = (x : tree.Rule) × List tree.Rule} ws f (over first_rule 5 l) → Faulted ws f final
    unfolding left_to_read
    collects_over h ws f e =
        let k : 32 - turn ≡ 0 = omega arith in
        let q : final ≡ mapped (λ xs. so.read ++ xs) (mapped list_of (mapped inl (over first_rule 5 l))) =
        sym so.reading ∙ ap (λ t. mapped (λ xs. so.read ++ xs) (left_to_read turn ns t)) word ∙ ap (λ n. mapped (λ xs. so.read ++ xs) (many first_rule read_rule next_rule n ns (w ∷ r))) k ∙ ap (λ t. mapped (λ xs. so.read ++ xs) (mapped list_of (mapped inl (over first_rule 5 t)))) (sym word) in
        led e (λ s b. q ∙ ap (λ o. mapped (λ xs. so.read ++ xs) (mapped list_of (mapped inl o))) b) (λ n v s b. q ∙ ap (λ o. mapped (λ xs. so.read ++ xs) (mapped list_of (mapped inl o))) b)

    module _ (few : turn < 32) where
      opened : mapped (λ xs. so.read ++ xs) (after (read_rule ns l) (then first_rule read_rule next_rule (32 - (turn + 1)) ns)) ≡ final
      unfolding left_to_read
      opened =
          let k : 32 - turn ≡ suc (32 - (turn + 1)) = omega arith in
          ap (λ t. mapped (λ xs. so.read ++ xs) (after (read_rule ns t) (then first_rule read_rule next_rule (32 - (turn + 1)) ns))) word
          ∙ ap (mapped (λ xs. so.read ++ xs)) (sym (many_step first_rule read_rule next_rule (32 - (turn + 1)) ns w r))
          ∙ ap (λ n. mapped (λ xs. so.read ++ xs) (many first_rule read_rule next_rule n ns (w ∷ r))) (sym k)
          ∙ ap (λ t. mapped (λ xs. so.read ++ xs) (left_to_read turn ns t)) (sym word)
          ∙ so.reading

      pub collects_fault : {ws : List W} {f : Flaw} → Faulted ws f (read_rule ns l) → Faulted ws f final
      collects_fault e = led e
          (λ s b. sym opened ∙ ap (λ o. mapped (λ xs. so.read ++ xs) (after o (then first_rule read_rule next_rule (32 - (turn + 1)) ns))) b)
          (λ n v s b. sym opened ∙ ap (λ o. mapped (λ xs. so.read ++ xs) (after o (then first_rule read_rule next_rule (32 - (turn + 1)) ns))) b)

      pub collects_next : (x : tree.Rule) (end : List W) → read_rule ns l ≡ ok x end → (us : List (List ℕ)) → us ≡ next_rule ns x → (ns' : List Rule) → ns' ≡ ms ++ rule_model x ∷ [] → Collects final (turn + 1) us end ns'
      unfolding left_to_read
      collects_next x end got us e ns' grown = record {
        read = so.read ++ x ∷ [];
        come = map_push rule_model so.read x ∙ ap (λ t. t ++ rule_model x ∷ []) so.come ∙ sym grown;
        reading =
            ap (λ v. mapped (λ xs. (so.read ++ x ∷ []) ++ xs) (many first_rule read_rule next_rule (32 - (turn + 1)) v end)) e
            ∙ sym (joined so.read x (many first_rule read_rule next_rule (32 - (turn + 1)) (next_rule ns x) end))
            ∙ ap (λ o. mapped (λ xs. so.read ++ xs) (after o (then first_rule read_rule next_rule (32 - (turn + 1)) ns))) (sym got)
            ∙ opened;
      }

-- a rule's name joins those before
pub label_joins : (ns : List (List ℕ)) (x : tree.Rule) (s : List ℕ) → (rule_model x).label ≡ s → next_rule ns x ≡ ns ++ s ∷ []
label_joins ns (tree.rule l hs a b) s e = ap (λ t. ns ++ t ∷ []) e
