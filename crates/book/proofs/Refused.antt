-- Texts are refused exactly for a reason. Assumes nothing.
use Rattle.std.proofs.Common.{◌≡◌, ℕ, ◌≤◌, Bool, true, false, leb, List, [], ◌∷◌, map, length, Ok, Err, sym, refl, ap, ◌∙◌, subst, inl, inr}
use Rattle.std.proofs.lemmas.Bool.{cond-true, cond-false, le-leb, lt-leb, leb-true, leb-false}
use Rattle.syntax.specs.Syntax.{W, Said, Reader, Out, ok, barred, flawed}
use Rattle.syntax.specs.Exact.{Exact}
use Rattle.syntax.specs.Tree as tree
use Rattle.syntax.specs.Grammar.{say_book, say_goal}
use Rattle.syntax.specs.Readers.{read_book, read_goal}
use Rattle.syntax.specs.Marking.{marked}
use Rattle.syntax.specs.Claims.{WrittenExactly}
use Rattle.syntax.proofs.Books.{book_exact, goal_exact}
use Rattle.syntax.proofs.Raw.{books_written, goals_written}
use Rattle.parse.specs.Flat.{content_of}
use Rattle.parse.specs.Rules.{rule_model}
use Rattle.lexed.specs.Texts.{Ending}
use Rattle.lexed.specs.Texts.{text_words, raw_words, word_places}
use Rattle.lexed.proofs.Names.{unmarked}
use Rattle.book.specs.Mentions.{in_rules, in_items}
use Rattle.book.specs.Predicates.{Predicate, Listing, these, excess, listing, Unknowns, all_known, unknown_at, unknowns}
use Rattle.book.specs.Reading.{Verdict, accepted, refused, Refusal, end_refusal, judged, judged_text, whole_or, with_predicates, with_known, book_meaning, goal_meaning, book_of, goal_of}
use Rattle.book.specs.Claims.{Reason, too_long, misspelt, unfinished, barring, faulting, meaning, TooManyPredicates, Lacking, BooksRefused, GoalsRefused}
use Rattle.book.proofs.Accepted.{never, spelled_means}

abbrev refusal_or : {X : Type 0} → Refusal → Verdict X → Refusal
refusal_or d (accepted x) = d
refusal_or d (refused f) = f

same_refused : {X : Type 0} (f g : Refusal) → ◌≡◌ {A = Verdict X} (refused f) (refused g) → f ≡ g
same_refused f g e = ap (refusal_or f) e

module _ {X Y : Type 0} (read : Reader X) (say : X → Said) (exact : (ws : List W) → Exact read say ws) (exactly : WrittenExactly read say) (k : X → Verdict Y) (senseless : X → Refusal → Type 0) (most : ℕ) (text : List ℕ) where
  module _ (blames : (x : X) (f : Refusal) → k x ≡ refused f → senseless x f) where
    by_out : (f : Refusal) → length text ≤ most → (end : Ending) → (text_words text).1 ≡ end → (o : Out X) → read (marked (raw_words text)) ≡ o → judged k (word_places text) end o ≡ refused f → Reason say senseless most text f
    by_out f h (Ok n) q (ok x r) g v =
        let a = (exactly (raw_words text) (unmarked text) x).0 (g ∙ ap (ok x) ((exact (marked (raw_words text))).whole x r g)) in
        meaning x f (record { short = h; ended = (n, q); words = a.0; fine = a.1 }) (blames x f v)
    by_out f h (Err l) q (ok x r) g v =
        let a = ((exact (marked (raw_words text))).accepts x).0 (g ∙ ap (ok x) ((exact (marked (raw_words text))).whole x r g)) in
        subst (Reason say senseless most text) (same_refused _ f v) (misspelt l h q (inl (x, a)))
    by_out f h (Ok n) q (barred []) g v = subst (Reason say senseless most text) (same_refused _ f v) (unfinished n h q (((exact (marked (raw_words text))).refuses []).0 g))
    by_out f h (Err l) q (barred []) g v = subst (Reason say senseless most text) (same_refused _ f v) (misspelt l h q (inr (((exact (marked (raw_words text))).refuses []).0 g)))
    by_out f h end q (barred (w ∷ r)) g v = subst (Reason say senseless most text) (same_refused _ f v) (barring w r h (((exact (marked (raw_words text))).refuses (w ∷ r)).0 g))
    by_out f h end q (flawed n w r) g v = subst (Reason say senseless most text) (same_refused _ f v) (faulting n w r h (((exact (marked (raw_words text))).faults n w r).0 g))

    pub reason_for : (f : Refusal) → judged_text k most read text ≡ refused f → Reason say senseless most text f
    reason_for f e = by_length (leb (length text) most) refl
      where
        by_length : (t : Bool) → leb (length text) most ≡ t → Reason say senseless most text f
        by_length true h = by_out f (leb-true (length text) most h) (text_words text).1 refl (read (marked (raw_words text))) refl (sym (cond-true (leb (length text) most) _ _ h) ∙ e)
        by_length false h = subst (Reason say senseless most text) (same_refused _ f (sym (cond-false (leb (length text) most) _ _ h) ∙ e)) (too_long (leb-false (length text) most h))

  opened : length text ≤ most → judged_text k most read text ≡ judged k (word_places text) (text_words text).1 (read (marked (raw_words text)))
  opened h = cond-true (leb (length text) most) _ _ (le-leb (length text) most h)

  module _ (blamed : (x : X) (f : Refusal) → senseless x f → k x ≡ refused f) where
    pub refused_for : (f : Refusal) → Reason say senseless most text f → judged_text k most read text ≡ refused f
    refused_for f (too_long h) = cond-false (leb (length text) most) _ _ (lt-leb (length text) most h)
    refused_for f (misspelt e h q (inl (x, a))) =
        opened h ∙ ap (judged k (word_places text) (text_words text).1) (((exact (marked (raw_words text))).accepts x).1 a) ∙ ap (λ z. whole_or z (k x)) q
    refused_for f (misspelt e h q (inr b)) =
        opened h ∙ ap (judged k (word_places text) (text_words text).1) (((exact (marked (raw_words text))).refuses []).1 b) ∙ ap (λ z. refused (end_refusal z)) q
    refused_for f (unfinished n h q b) =
        opened h ∙ ap (judged k (word_places text) (text_words text).1) (((exact (marked (raw_words text))).refuses []).1 b) ∙ ap (λ z. refused (end_refusal z)) q
    refused_for f (barring w r h b) = opened h ∙ ap (judged k (word_places text) (text_words text).1) (((exact (marked (raw_words text))).refuses (w ∷ r)).1 b)
    refused_for f (faulting n w r h b) = opened h ∙ ap (judged k (word_places text) (text_words text).1) (((exact (marked (raw_words text))).faults n w r).1 b)
    refused_for f (meaning x g s b) = spelled_means read say (λ ws x r. (exact ws).whole x r) exactly k most text x s ∙ blamed x f b

-- books
book_blames : (b : List tree.Rule) (f : Refusal) → book_meaning b ≡ refused f → TooManyPredicates b f
book_blames b f e = go (listing [] (in_rules (map rule_model b))) refl e
  where
    go : (l : Listing) → listing [] (in_rules (map rule_model b)) ≡ l → with_predicates (map rule_model b) l ≡ refused f → TooManyPredicates b f
    go (these ps) q v = absurd (never _ f (sym v))
    go (excess p) q v = (p, q, same_refused _ f v)

book_blamed : (b : List tree.Rule) (f : Refusal) → TooManyPredicates b f → book_meaning b ≡ refused f
book_blamed b f (p, q, e) = ap (with_predicates (map rule_model b)) q ∙ ap refused e

pub books_refused : BooksRefused
unfolding book_of
books_refused text f = (
  reason_for read_book say_book book_exact books_written book_meaning TooManyPredicates 8192 text book_blames f,
  refused_for read_book say_book book_exact books_written book_meaning TooManyPredicates 8192 text book_blamed f,
)

-- goals
goal_blames : (ps : List Predicate) (c : tree.Content) (f : Refusal) → goal_meaning ps c ≡ refused f → Lacking ps c f
goal_blames ps c f e = go (unknowns ps (in_items (content_of [] c))) refl e
  where
    go : (u : Unknowns) → unknowns ps (in_items (content_of [] c)) ≡ u → with_known (content_of [] c) u ≡ refused f → Lacking ps c f
    go all_known q v = absurd (never _ f (sym v))
    go (unknown_at p) q v = (p, q, same_refused _ f v)

goal_blamed : (ps : List Predicate) (c : tree.Content) (f : Refusal) → Lacking ps c f → goal_meaning ps c ≡ refused f
goal_blamed ps c f (p, q, e) = ap (with_known (content_of [] c)) q ∙ ap refused e

pub goals_refused : GoalsRefused
unfolding goal_of
goals_refused ps text f = (
  reason_for read_goal say_goal goal_exact goals_written (goal_meaning ps) (Lacking ps) 1024 text (goal_blames ps) f,
  refused_for read_goal say_goal goal_exact goals_written (goal_meaning ps) (Lacking ps) 1024 text (goal_blamed ps) f,
)
