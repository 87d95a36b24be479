-- What the grammar's reading comes to, and what the code makes of it. Assumes nothing.
use Rattle.std.proofs.Common.{◌≡◌, ℕ, zero, suc, ◌+◌, ◌-◌, ◌<◌, ◌≤◌, ltb, leb, ◌⊎◌, List, [], ◌∷◌, length, get_or, drop, IsErrAnd, Ok, Err, Result, vec_items, Vec, map, sym, refl, ap, ◌∙◌, subst, inl, inr, arith}
use Rattle.std.proofs.lemmas.Result.{err_from_is_err_and}
use Rattle.std.proofs.lemmas.Bool.{cond-true, cond-false, lt-ltb, le-ltb, le-leb, lt-leb}
use Rattle.std.proofs.lemmas.List.{length-map}
use Rattle.syntax.specs.Syntax.{W, Out, ok, barred}
use Rattle.syntax.specs.Marking.{marked}
use Rattle.parse.specs.declared.token.Token.{Token}
use Rattle.parse.specs.declared.flaw.Flaw.{Flaw}
use Rattle.parse.specs.declared.flaw.Flaw.TheVariants as flaw
use Rattle.parse.specs.Flaws.{flawed_at, Faulted}
use Rattle.std.specs.declared.alloc.Global.{Global}
use Rattle.syntax.specs.Tree as tree
use Rattle.parse.specs.declared.tree.Rule.{Rule as CodeRule}
use Rattle.parse.specs.declared.tree.Item.{Item as CodeItem}
use Rattle.parse.specs.declared.tree.Mention.{Mention as CodeMention}
use Rattle.parse.specs.Model.{item}
use Rattle.parse.specs.Flat.{content_of}
use Rattle.parse.specs.Rules.{Rule, rule_view, rule_model}
use Rattle.parse.specs.Whole.{BookTold, GoalTold}
use Rattle.lexed.specs.declared.text.Tokens.{Tokens}
use Rattle.parse.specs.Tokens.{words}
use Rattle.lexed.specs.Texts.{Ending, places, text_words, raw_words}
use Rattle.book.specs.declared.faults.BookFault.{BookFault}
use Rattle.book.specs.declared.faults.BookFault.TheVariants.{Grammar, Unbound, Reused, InGoal, Unknown, Memory}
use Rattle.book.specs.declared.faults.GrammarFault.{GrammarFault}
use Rattle.book.specs.declared.faults.GrammarFault.TheVariants.{Letter, Barred, TooMany}
use Rattle.book.specs.Endings.{AtEnd, WordsTold, Wordless, Told}
use Rattle.book.specs.Predicates.{Listing, Excess}
use Rattle.book.specs.Reading.{Verdict, refused, refusal, end_refusal, word_refusal, judged, judged_text, with_predicates, index_refusal, refusal_of, Located, Refuses, Answers, layer_of}

pub refuses_by : {Y : Type 0} (e : BookFault) (v : Verdict Y) → v ≡ refused (refusal_of e) → Refuses e v
refuses_by (Grammar e) v h = h
refuses_by (Unbound p) v h = h
refuses_by (Reused p) v h = h
refuses_by (InGoal p) v h = h
refuses_by (Unknown p) v h = h
refuses_by Memory v h = tt

pub refuses_as : {Y : Type 0} (e : BookFault) {u v : Verdict Y} → v ≡ u → Refuses e u → Refuses e v
refuses_as e h r = subst (Refuses e) (sym h) r

-- the exit of a `?`
pub exit_book : {T Y : Type 0} (view : T → Y) (v : Verdict Y) (e : BookFault) (r : Result T BookFault) → IsErrAnd r (λ y. y ≡ e) → Refuses e v → Answers view r v
exit_book view v e r b h = let p = err_from_is_err_and r b in subst (λ x. Answers view x v) (sym p.1) (subst (λ y. Refuses y v) (sym p.2) h)

-- the words from an index on: none, or one and those behind it
split : (ws : List W) (i : ℕ) → ((drop i ws ≡ []) × (length ws ≤ i)) ⊎ ((w : W) × (r : List W) × (drop i ws ≡ w ∷ r) × (i + suc (length r) ≡ length ws))
split [] zero = inl (refl, omega arith)
split [] (suc i) = inl (refl, omega arith)
split (w ∷ ws) zero = inr (w, ws, refl, omega arith)
split (w ∷ ws) (suc i) = go (split ws i)
  where
    go : ((drop i ws ≡ []) × (length ws ≤ i)) ⊎ ((w : W) × (r : List W) × (drop i ws ≡ w ∷ r) × (i + suc (length r) ≡ length ws)) → ((drop i ws ≡ []) × (suc (length ws) ≤ suc i)) ⊎ ((w : W) × (r : List W) × (drop i ws ≡ w ∷ r) × (suc i + suc (length r) ≡ suc (length ws)))
    go (inl (e, h)) = inl (e, omega arith)
    go (inr (v, r, e, h)) = inr (v, r, e, omega arith)

-- a fault of the words lies where its index says
module _ {X Y : Type 0} (k : X → Verdict Y) (ps : List ℕ) (end : Ending) (ws : List W) (same : length ps ≡ length ws) where
  at_word : (n i : ℕ) (w : W) (r : List W) → i + suc (length r) ≡ length ws → word_refusal ps n r ≡ index_refusal ps end n i
  at_word n i w r h =
      let l : i < length ps = omega arith in
      let j : length ps - suc (length r) ≡ i = omega arith in
      ap (λ m. refusal n (get_or ps m 0) (layer_of n)) j ∙ sym (cond-true (ltb i (length ps)) _ _ (lt-ltb i (length ps) l))

  at_end : (n i : ℕ) → length ws ≤ i → end_refusal end ≡ index_refusal ps end n i
  at_end n i h = let l : length ps ≤ i = omega arith in sym (cond-false (ltb i (length ps)) _ _ (le-ltb i (length ps) l))

  barred_at : (i : ℕ) → judged k ps end (barred (drop i ws)) ≡ refused (index_refusal ps end 4 i)
  barred_at i = go (split ws i)
    where
      go : ((drop i ws ≡ []) × (length ws ≤ i)) ⊎ ((w : W) × (r : List W) × (drop i ws ≡ w ∷ r) × (i + suc (length r) ≡ length ws)) → judged k ps end (barred (drop i ws)) ≡ refused (index_refusal ps end 4 i)
      go (inl (e, h)) = ap (λ l. judged k ps end (barred l)) e ∙ ap refused (at_end 4 i h)
      go (inr (w, r, e, h)) = ap (λ l. judged k ps end (barred l)) e ∙ ap refused (at_word 4 i w r h)

  flawed_at_index : (n i : ℕ) → judged k ps end (flawed_at n (drop i ws)) ≡ refused (index_refusal ps end n i)
  flawed_at_index n i = go (split ws i)
    where
      go : ((drop i ws ≡ []) × (length ws ≤ i)) ⊎ ((w : W) × (r : List W) × (drop i ws ≡ w ∷ r) × (i + suc (length r) ≡ length ws)) → judged k ps end (flawed_at n (drop i ws)) ≡ refused (index_refusal ps end n i)
      go (inl (e, h)) = ap (λ l. judged k ps end (flawed_at n l)) e ∙ ap refused (at_end n i h)
      go (inr (w, r, e, h)) = ap (λ l. judged k ps end (flawed_at n l)) e ∙ ap refused (at_word n i w r h)

  pub flaw_refuses : (f : Flaw) (e : BookFault) (o : Out X) → Faulted ws f o → Located ps end f e → Refuses e (judged k ps end o)
  flaw_refuses (flaw.Barred i) e o h s = refuses_by e _ (ap (judged k ps end) h.found ∙ barred_at i ∙ ap refused (sym s))
  flaw_refuses (flaw.TooMany i) e o h s = refuses_by e _ (ap (judged k ps end) h.found ∙ flawed_at_index 5 i ∙ ap refused (sym s))
  flaw_refuses (flaw.Unbound i) e o h s = refuses_by e _ (ap (judged k ps end) h.found ∙ flawed_at_index 6 i ∙ ap refused (sym s))
  flaw_refuses (flaw.Reused i) e o h s = refuses_by e _ (ap (judged k ps end) h.found ∙ flawed_at_index 7 i ∙ ap refused (sym s))
  flaw_refuses (flaw.InGoal i) e o h s = refuses_by e _ (ap (judged k ps end) h.found ∙ flawed_at_index 8 i ∙ ap refused (sym s))
  flaw_refuses flaw.Memory e o h s = subst (λ x. Refuses x (judged k ps end o)) (sym s) tt

-- what the grammar's reader reads where the code says something of all words: the same, under a relation, or the same flaw
abbrev pub Reads : {T X : Type 0} → (T → X → Type 0) → List W → Result T Flaw → Out X → Type 0
Reads {X = X} Is ws (Ok v) o = (y : X) × Is v y × (o ≡ ok y [])
Reads Is ws (Err f) o = Faulted ws f o

-- the rules of a book, and the items of a goal
abbrev pub AreRules : Vec CodeRule Global → List tree.Rule → Type 0
AreRules v y = map rule_model y ≡ map rule_view (vec_items v)

abbrev pub AreItems : Vec (CodeItem CodeMention) Global → tree.Content → Type 0
AreItems v y = content_of [] y ≡ map item (vec_items v)

pub rules_read : (ws : List W) (r : Result (Vec CodeRule Global) Flaw) (o : Out (List tree.Rule)) → BookTold ws r o → Reads AreRules ws r o
rules_read ws (Ok v) o h = h
rules_read ws (Err f) o h = h

pub items_read : (ws : List W) (r : Result (Vec (CodeItem CodeMention) Global) Flaw) (o : Out tree.Content) → GoalTold ws r o → Reads AreItems ws r o
items_read ws (Ok v) o h = h
items_read ws (Err f) o h = h

-- what is told of the words of a text
module _ {T X Y : Type 0} (Is : T → X → Type 0) (k : X → Verdict Y) (ps : List ℕ) (ws : List W) (same : length ps ≡ length ws) (o : Out X) where
  pub told_refused : (end : Ending) (said : Result T Flaw) (e : BookFault) → Reads Is ws said o → Told ps end said (Err e) → Refuses e (judged k ps end o)
  told_refused end (Ok v) e (y, is, whole) (l, ends, here) =
      refuses_by e _ (ap (λ z. judged k ps z o) ends ∙ ap (judged k ps (Err l)) whole ∙ ap (λ x. refused (refusal_of x)) (sym here))
  told_refused end (Err f) e found located = flaw_refuses k ps end ws same f e o found located

  pub told_accepted : (end : Ending) (said : Result T Flaw) (v : T) → Reads Is ws said o → Told ps end said (Ok v) → (y : X) × Is v y × (judged k ps end o ≡ k y)
  told_accepted end (Ok u) v (y, is, whole) (e, (n, ends)) = (y, subst (λ x. Is x y) (sym e) is, ap (λ z. judged k ps z o) ends ∙ ap (judged k ps (Ok n)) whole)
  told_accepted end (Err f) v found t = absurd t

-- a text within its limit, by the tokens of the code
pub within : {X Y : Type 0} (k : X → Verdict Y) (most : ℕ) (read : List W → Out X) (text : List ℕ) (t : Tokens) (ts : List Token) → ts ≡ vec_items t.list → WordsTold text most (Ok t) → judged_text k most read text ≡ judged k (places (vec_items t.list)) t.ending (read (words ts))
within k most read text t ts e (h, are) =
    cond-true (leb (length text) most) _ _ (le-leb (length text) most h) ∙ ap (λ q. judged k q (text_words text).1 (read (marked (raw_words text)))) (sym are.places) ∙ ap (λ z. judged k (places (vec_items t.list)) z (read (marked (raw_words text)))) (sym are.ending) ∙ ap (λ l. judged k (places (vec_items t.list)) t.ending (read l)) (sym are.words ∙ ap words (sym e))

-- a text that gives no words
pub wordless : {X Y : Type 0} (k : X → Verdict Y) (most : ℕ) (read : List W → Out X) (text : List ℕ) (e : BookFault) → Wordless text most e → Refuses e (judged_text k most read text)
wordless k most read text (Grammar e) (h, s) = cond-false (leb (length text) most) _ _ (lt-leb (length text) most h) ∙ ap (λ x. refused (refusal_of (Grammar x))) (sym s)
wordless k most read text (Unbound p) h = absurd h
wordless k most read text (Reused p) h = absurd h
wordless k most read text (InGoal p) h = absurd h
wordless k most read text (Unknown p) h = absurd h
wordless k most read text Memory h = tt

-- a 33rd predicate
pub excess_refuses : (e : BookFault) (l : Listing) (rules : List Rule) → Excess e l → Refuses e (with_predicates rules l)
excess_refuses (Grammar (Letter x)) l rules h = absurd h
excess_refuses (Grammar (Barred p)) l rules h = absurd h
excess_refuses (Grammar (TooMany p)) l rules h = ap (with_predicates rules) h
excess_refuses (Unbound p) l rules h = absurd h
excess_refuses (Reused p) l rules h = absurd h
excess_refuses (InGoal p) l rules h = absurd h
excess_refuses (Unknown p) l rules h = absurd h
excess_refuses Memory l rules h = tt

-- places of tokens
pub places_length : (ts : List Token) → length (places ts) ≡ length ts
places_length ts = rw length-map

pub place_at : (ts : List Token) (i : ℕ) (t : Token) → i < length ts → t ≡ get_or ts i t → get_or (places ts) i 0 ≡ t.place
place_at [] i t h e = absurd (omega arith)
place_at (s ∷ ts) zero t h e = ap (λ x. x.place) (sym e)
place_at (s ∷ ts) (suc i) t h e = place_at ts i t (omega arith) e

pub words_length : (ts : List Token) → length (words ts) ≡ length ts
words_length ts = rw length-map

-- as many places as words
pub as_many : (ts us : List Token) → us ≡ ts → length (places ts) ≡ length (words us)
as_many ts us e = places_length ts ∙ ap length (sym e) ∙ sym (words_length us)

pub ended_by : (end : Ending) (e : GrammarFault) → AtEnd end e → end_refusal end ≡ refusal_of (Grammar e)
ended_by (Ok n) e h = ap (λ x. refusal_of (Grammar x)) (sym h)
ended_by (Err l) e h = ap (λ x. refusal_of (Grammar x)) (sym h)
