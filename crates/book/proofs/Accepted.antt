-- Texts are accepted exactly if they spell a book or goal. Assumes nothing.
use Rattle.std.proofs.Common.{◌≡◌, ℕ, ◌≤◌, Bool, true, false, leb, List, [], ◌∷◌, map, length, Ok, Err, sym, refl, ap, ◌∙◌, subst}
use Rattle.std.proofs.lemmas.Bool.{cond-true, cond-false, le-leb, leb-true}
use Rattle.syntax.specs.Syntax.{W, Said, Reader, Out, ok, barred, flawed}
use Rattle.syntax.specs.Tree as tree
use Rattle.syntax.specs.Grammar.{say_book, say_goal}
use Rattle.syntax.specs.Readers.{read_book, read_goal}
use Rattle.syntax.specs.Marking.{marked}
use Rattle.syntax.specs.Claims.{WrittenExactly}
use Rattle.syntax.proofs.Books.{book_exact, goal_exact}
use Rattle.syntax.proofs.Raw.{books_written, goals_written}
use Rattle.parse.specs.Model.{Item}
use Rattle.parse.specs.Flat.{content_of}
use Rattle.parse.specs.Rules.{rule_model}
use Rattle.lexed.specs.Texts.{Ending}
use Rattle.lexed.specs.Texts.{text_words, raw_words, word_places}
use Rattle.lexed.proofs.Names.{unmarked}
use Rattle.book.specs.Mentions.{in_rules, in_items}
use Rattle.book.specs.Predicates.{Predicate, Listing, these, excess, listing, Unknowns, all_known, unknown_at, unknowns}
use Rattle.book.specs.Reading.{Book, Verdict, accepted, refused, Refusal, judged, judged_text, whole_or, with_predicates, with_known, book_meaning, goal_meaning, book_of, goal_of}
use Rattle.book.specs.Claims.{Spelled, BooksAccepted, OneBook, GoalsAccepted, OneGoal}

-- telling verdicts apart
abbrev Accepting : {X : Type 0} → Verdict X → Type 0
Accepting (accepted x) = Unit {0}
Accepting (refused r) = ⊥

pub never : {X : Type 0} (x : X) (r : Refusal) → refused r ≡ accepted x → ⊥
never x r e = subst Accepting (sym e) tt

abbrev value_or : {X : Type 0} → X → Verdict X → X
value_or d (accepted x) = x
value_or d (refused r) = d

same_accepted : {X : Type 0} (x y : X) → accepted x ≡ accepted y → x ≡ y
same_accepted x y e = ap (value_or x) e

-- a text that is spelled is read as its tree, and accepted as what the tree means
module _ {X Y : Type 0} (read : Reader X) (say : X → Said) (whole : (ws : List W) (x : X) (r : List W) → read ws ≡ ok x r → r ≡ []) (exactly : WrittenExactly read say) (k : X → Verdict Y) (most : ℕ) (text : List ℕ) where
  pub spelled_means : (x : X) → Spelled say most text x → judged_text k most read text ≡ k x
  spelled_means x s =
      cond-true (leb (length text) most) _ _ (le-leb (length text) most s.short)
      ∙ ap (judged k (word_places text) (text_words text).1) ((exactly (raw_words text) (unmarked text) x).1 (s.words, s.fine))
      ∙ ap (λ z. whole_or z (k x)) s.ended.1

  pub accepted_spelled : (y : Y) → judged_text k most read text ≡ accepted y → (x : X) × Spelled say most text x × (k x ≡ accepted y)
  accepted_spelled y e = by_length (leb (length text) most) refl
    where
      by_out : (h : length text ≤ most) (end : Ending) → (text_words text).1 ≡ end → (o : Out X) → read (marked (raw_words text)) ≡ o → judged k (word_places text) end o ≡ accepted y → (x : X) × Spelled say most text x × (k x ≡ accepted y)
      by_out h (Ok n) q (ok x r) g v =
          let a = (exactly (raw_words text) (unmarked text) x).0 (g ∙ ap (ok x) (whole (marked (raw_words text)) x r g)) in
          (x, record { short = h; ended = (n, q); words = a.0; fine = a.1 }, v)
      by_out h (Err l) q (ok x r) g v = absurd (never y _ v)
      by_out h end q (barred []) g v = absurd (never y _ v)
      by_out h end q (barred (w ∷ r)) g v = absurd (never y _ v)
      by_out h end q (flawed n w r) g v = absurd (never y _ v)

      by_length : (t : Bool) → leb (length text) most ≡ t → (x : X) × Spelled say most text x × (k x ≡ accepted y)
      by_length true h = by_out (leb-true (length text) most h) (text_words text).1 refl (read (marked (raw_words text))) refl (sym (cond-true (leb (length text) most) _ _ h) ∙ e)
      by_length false h = absurd (never y _ (sym (cond-false (leb (length text) most) _ _ h) ∙ e))

-- books
to_book : (t : List tree.Rule) (b : Book) (l : Listing) → listing [] (in_rules (map rule_model t)) ≡ l → with_predicates (map rule_model t) l ≡ accepted b → (map rule_model t ≡ b.rules) × (listing [] (in_rules b.rules) ≡ these b.predicates)
to_book t b (these ps) q e =
    let s = same_accepted (record { predicates = ps; rules = map rule_model t }) b e in
    (ap (λ x. x.rules) s, ap (λ x. listing [] (in_rules x.rules)) (sym s) ∙ q ∙ ap (λ x. these x.predicates) s)
to_book t b (excess p) q e = absurd (never b _ e)

pub books_accepted : BooksAccepted
unfolding book_of
books_accepted text b = (
  (λ e.
      let a = accepted_spelled read_book say_book (λ ws x r. (book_exact ws).whole x r) books_written book_meaning 8192 text b e in
      let m = to_book a.0 b (listing [] (in_rules (map rule_model a.0))) refl a.2 in
      record { tree = a.0; spelled = a.1; rules = m.0; predicates = m.1 }),
  (λ h.
      spelled_means read_book say_book (λ ws x r. (book_exact ws).whole x r) books_written book_meaning 8192 text h.tree h.spelled
      ∙ ap (λ rs. with_predicates rs (listing [] (in_rules rs))) h.rules
      ∙ ap (with_predicates b.rules) h.predicates),
)

pub one_book : OneBook
one_book text b c h k = same_accepted b c (sym ((books_accepted text b).1 h) ∙ (books_accepted text c).1 k)

-- goals
to_goal : (ps : List Predicate) (t : tree.Content) (is : List Item) (u : Unknowns) → unknowns ps (in_items (content_of [] t)) ≡ u → with_known (content_of [] t) u ≡ accepted is → (content_of [] t ≡ is) × (unknowns ps (in_items is) ≡ all_known)
to_goal ps t is all_known q e = let s = same_accepted (content_of [] t) is e in (s, ap (λ x. unknowns ps (in_items x)) (sym s) ∙ q)
to_goal ps t is (unknown_at p) q e = absurd (never is _ e)

pub goals_accepted : GoalsAccepted
unfolding goal_of
goals_accepted ps text is = (
  (λ e.
      let a = accepted_spelled read_goal say_goal (λ ws x r. (goal_exact ws).whole x r) goals_written (goal_meaning ps) 1024 text is e in
      let m = to_goal ps a.0 is (unknowns ps (in_items (content_of [] a.0))) refl a.2 in
      record { tree = a.0; spelled = a.1; items = m.0; known = m.1 }),
  (λ h.
      spelled_means read_goal say_goal (λ ws x r. (goal_exact ws).whole x r) goals_written (goal_meaning ps) 1024 text h.tree h.spelled
      ∙ ap (λ l. with_known l (unknowns ps (in_items l))) h.items
      ∙ ap (with_known is) h.known),
)

pub one_goal : OneGoal
one_goal ps text is js h k = same_accepted is js (sym ((goals_accepted ps text is).1 h) ∙ (goals_accepted ps text js).1 k)
