-- What reading a text gives: a book or a goal, or a refusal by its number, place and layer. Assumes nothing.
use Rattle.std.specs.Prelude.{◌≡◌, ℕ, suc, ◌-◌, cond, List, [], ◌∷◌, map, length, Ok, Err, vec_items, Result, nat_le, nat_lt, slice_index}
use Rattle.words.specs.Faults.{letter_number, letter_place}
use Rattle.syntax.specs.Syntax.{W, Out, ok, barred, flawed}
use Rattle.syntax.specs.Tree as tree
use Rattle.syntax.specs.Readers.{read_book, read_goal}
use Rattle.syntax.specs.Marking.{marked}
use Rattle.parse.specs.declared.flaw.Flaw.{Flaw}
use Rattle.parse.specs.declared.flaw.Flaw.TheVariants as flaw
use Rattle.parse.specs.Model.{Item, item}
use Rattle.parse.specs.Flat.{content_of}
use Rattle.parse.specs.Rules.{Rule, rule_model, rule_view}
use Rattle.lexed.specs.Texts.{Ending}
use Rattle.lexed.specs.Texts.{text_words, raw_words, word_places}
use Rattle.book.specs.declared.faults.BookFault.{BookFault}
use Rattle.book.specs.declared.faults.BookFault.TheVariants.{Grammar, Unbound, Reused, InGoal, Unknown, Memory}
use Rattle.book.specs.declared.faults.Layer.{Layer}
use Rattle.book.specs.declared.faults.Layer.TheVariants as layer
use Rattle.book.specs.declared.library.Book.{Book as CodeBook}
use Rattle.book.specs.declared.library.Goal.{Goal as CodeGoal}
use Rattle.book.specs.Faults.{book_number, book_place, book_layer}
use Rattle.book.specs.Mentions.{in_rules, in_items}
use Rattle.book.specs.Predicates.{Predicate, predicates, Listing, these, excess, listing, Unknowns, all_known, unknown_at, unknowns}

-- a book: its predicates, numbered from 0 as they first appear, and its rules
pub record Book : Type 0 where
  pub predicates : List Predicate
  pub rules : List Rule

-- a fault by its number, the place of its byte, and the layer that finds it
pub record Refusal : Type 0 where
  pub number : ℕ
  pub place : ℕ
  pub layer : Layer

pub data Verdict (X : Type 0) : Type 0 where
  accepted : X → Verdict X
  refused : Refusal → Verdict X

abbrev pub refusal : ℕ → ℕ → Layer → Refusal
refusal n p l = record { number = n; place = p; layer = l }

-- the layer of a fault at a word: grammar up to 5, meaning from 6 on
abbrev pub layer_of : ℕ → Layer
layer_of n = cond (nat_le n 5) layer.Grammar layer.Meaning

-- what is wrong at the end of the words: their text's first fault of letters, or that no more words come
abbrev pub end_refusal : Ending → Refusal
end_refusal (Ok n) = refusal 4 n layer.Grammar
end_refusal (Err e) = refusal (letter_number e) (letter_place e) layer.Letters

-- fault n at a word, with the words behind it
abbrev pub word_refusal : List ℕ → ℕ → List W → Refusal
word_refusal places n behind = refusal n (slice_index places (length places - suc (length behind))) (layer_of n)

abbrev pub whole_or : {X : Type 0} → Ending → Verdict X → Verdict X
whole_or (Ok n) v = v
whole_or (Err e) v = refused (end_refusal (Err e))

-- what the grammar's reading of the words of a text comes to; a text's fault of letters lies behind all its words
abbrev pub judged : {X Y : Type 0} → (X → Verdict Y) → List ℕ → Ending → Out X → Verdict Y
judged meaning places end (ok x r) = whole_or end (meaning x)
judged meaning places end (barred []) = refused (end_refusal end)
judged meaning places end (barred (w ∷ r)) = refused (word_refusal places 4 r)
judged meaning places end (flawed n w r) = refused (word_refusal places n r)

abbrev pub judged_text : {X Y : Type 0} → (X → Verdict Y) → ℕ → (List W → Out X) → List ℕ → Verdict Y
judged_text meaning most read text =
    cond (nat_le (length text) most) (judged meaning (word_places text) (text_words text).1 (read (marked (raw_words text)))) (refused (refusal 1 most layer.Letters))

-- a 33rd predicate is looked for last
abbrev pub with_predicates : List Rule → Listing → Verdict Book
with_predicates rules (these ps) = accepted (record { predicates = ps; rules = rules })
with_predicates rules (excess p) = refused (refusal 5 p layer.Grammar)

abbrev pub book_meaning : List tree.Rule → Verdict Book
book_meaning b = with_predicates (map rule_model b) (listing [] (in_rules (map rule_model b)))

-- a book has at most 8,192 bytes
unfoldable pub book_of : List ℕ → Verdict Book
book_of text = judged_text book_meaning 8192 read_book text

-- a predicate that the book lacks is looked for last
abbrev pub with_known : List Item → Unknowns → Verdict (List Item)
with_known items all_known = accepted items
with_known items (unknown_at p) = refused (refusal 9 p layer.Meaning)

abbrev pub goal_meaning : List Predicate → tree.Content → Verdict (List Item)
goal_meaning ps c = with_known (content_of [] c) (unknowns ps (in_items (content_of [] c)))

-- a goal has at most 1,024 bytes
unfoldable pub goal_of : List Predicate → List ℕ → Verdict (List Item)
goal_of ps text = judged_text (goal_meaning ps) 1024 read_goal text

-- the code's values as these
abbrev pub book_view : CodeBook → Book
book_view b = record { predicates = predicates b.predicates; rules = map rule_view (vec_items b.rules) }

abbrev pub goal_view : CodeGoal → List Item
goal_view g = map item (vec_items g.items)

abbrev pub refusal_of : BookFault → Refusal
refusal_of e = refusal (book_number e) (book_place e) (book_layer e)

-- the code refuses as the verdict says; want of memory says nothing of the text
abbrev pub Refuses : {Y : Type 0} → BookFault → Verdict Y → Type 0
Refuses (Grammar e) v = v ≡ refused (refusal_of (Grammar e))
Refuses (Unbound p) v = v ≡ refused (refusal_of (Unbound p))
Refuses (Reused p) v = v ≡ refused (refusal_of (Reused p))
Refuses (InGoal p) v = v ≡ refused (refusal_of (InGoal p))
Refuses (Unknown p) v = v ≡ refused (refusal_of (Unknown p))
Refuses Memory v = Unit {0}

-- the code answers as the verdict says
abbrev pub Answers : {T Y : Type 0} → (T → Y) → Result T BookFault → Verdict Y → Type 0
Answers view (Ok x) v = v ≡ accepted (view x)
Answers view (Err e) v = Refuses e v

-- a flaw of the words, by its number and the index of its word
abbrev pub flaw_number : Flaw → ℕ
flaw_number (flaw.Barred i) = 4
flaw_number (flaw.TooMany i) = 5
flaw_number (flaw.Unbound i) = 6
flaw_number (flaw.Reused i) = 7
flaw_number (flaw.InGoal i) = 8
flaw_number flaw.Memory = 30

-- the fault at an index of the words, or at their end
abbrev pub index_refusal : List ℕ → Ending → ℕ → ℕ → Refusal
index_refusal places end n i = cond (nat_lt i (length places)) (refusal n (slice_index places i) (layer_of n)) (end_refusal end)

abbrev pub Located : List ℕ → Ending → Flaw → BookFault → Type 0
Located places end (flaw.Barred i) e = refusal_of e ≡ index_refusal places end 4 i
Located places end (flaw.TooMany i) e = refusal_of e ≡ index_refusal places end 5 i
Located places end (flaw.Unbound i) e = refusal_of e ≡ index_refusal places end 6 i
Located places end (flaw.Reused i) e = refusal_of e ≡ index_refusal places end 7 i
Located places end (flaw.InGoal i) e = refusal_of e ≡ index_refusal places end 8 i
Located places end flaw.Memory e = e ≡ Memory
