-- What is claimed of the reading of texts, in the words of the grammar. Assumes nothing.
use Rattle.std.specs.Prelude.{◌≡◌, ℕ, suc, ◌-◌, ◌<◌, ◌≤◌, ◌⊎◌, ◌↔◌, List, [], ◌∷◌, map, length, Ok, Err, slice_index}
use Rattle.words.specs.declared.faults.LetterFault.{LetterFault}
use Rattle.words.specs.Faults.{letter_number, letter_place}
use Rattle.syntax.specs.Syntax.{W, Said, plain, Fine}
use Rattle.syntax.specs.Exact.{Accepts, Refuses, Faults}
use Rattle.syntax.specs.Tree as tree
use Rattle.syntax.specs.Grammar.{say_book, say_goal}
use Rattle.syntax.specs.Marking.{marked, written}
use Rattle.parse.specs.Model.{Item}
use Rattle.parse.specs.Flat.{content_of}
use Rattle.parse.specs.Rules.{rule_model}
use Rattle.lexed.specs.Texts.{text_words, raw_words, word_places}
use Rattle.book.specs.declared.faults.Layer.TheVariants as layer
use Rattle.book.specs.Mentions.{in_rules, in_items}
use Rattle.book.specs.Predicates.{Predicate, these, excess, listing, unknowns, all_known, unknown_at}
use Rattle.book.specs.Reading.{Book, accepted, refused, Refusal, refusal, layer_of, book_of, goal_of}

-- the words of a text, as written, are just those of a tree, none with a fault; no fault of letters ends them, and the text is short enough
pub record Spelled {X : Type 0} (say : X → Said) (most : ℕ) (text : List ℕ) (x : X) : Type 0 where
  pub short : length text ≤ most
  pub ended : (n : ℕ) × ((text_words text).1 ≡ Ok n)
  pub words : written (plain (say x)) ≡ raw_words text
  pub fine : Fine (say x)

-- a text is this book: some tree is spelled by it, with these rules and these predicates, at most 32 as they first appear
pub record IsBook (text : List ℕ) (b : Book) : Type 0 where
  pub tree : List tree.Rule
  pub spelled : Spelled say_book 8192 text tree
  pub rules : map rule_model tree ≡ b.rules
  pub predicates : listing [] (in_rules b.rules) ≡ these b.predicates

-- a text is accepted as a book exactly if it is that book
abbrev pub BooksAccepted : Type 0
BooksAccepted = (text : List ℕ) (b : Book) → (book_of text ≡ accepted b) ↔ IsBook text b

-- a text is at most one book
abbrev pub OneBook : Type 0
OneBook = (text : List ℕ) (b c : Book) → IsBook text b → IsBook text c → b ≡ c

-- a text is this goal for a book with these predicates: some tree is spelled by it, and the book has each predicate
pub record IsGoal (ps : List Predicate) (text : List ℕ) (is : List Item) : Type 0 where
  pub tree : tree.Content
  pub spelled : Spelled say_goal 1024 text tree
  pub items : content_of [] tree ≡ is
  pub known : unknowns ps (in_items is) ≡ all_known

abbrev pub GoalsAccepted : Type 0
GoalsAccepted = (ps : List Predicate) (text : List ℕ) (is : List Item) → (goal_of ps text ≡ accepted is) ↔ IsGoal ps text is

abbrev pub OneGoal : Type 0
OneGoal = (ps : List Predicate) (text : List ℕ) (is js : List Item) → IsGoal ps text is → IsGoal ps text js → is ≡ js

-- where the word stands that has these behind it
abbrev pub place_before : List ℕ → List W → ℕ
place_before text behind = slice_index (word_places text) (length (word_places text) - suc (length behind))

-- all words of the text begin a tree without fault: they spell one, or none with just these words
abbrev pub Begins : {X : Type 0} → (X → Said) → List ℕ → Type 0
Begins {X} say text = ((x : X) × Accepts say (marked (raw_words text)) x) ⊎ Refuses say (marked (raw_words text)) []

-- why a text is refused, and how: its length; a fault of its letters, where all words before it begin a tree; words that end too early, or a
-- word that the grammar bars; the first word with a fault; or what the tree means, looked at last
pub data Reason {X : Type 0} (say : X → Said) (senseless : X → Refusal → Type 0) (most : ℕ) (text : List ℕ) : Refusal → Type 0 where
  too_long : most < length text → Reason say senseless most text (refusal 1 most layer.Letters)
  misspelt : (e : LetterFault) → length text ≤ most → (text_words text).1 ≡ Err e → Begins say text → Reason say senseless most text (refusal (letter_number e) (letter_place e) layer.Letters)
  unfinished : (n : ℕ) → length text ≤ most → (text_words text).1 ≡ Ok n → Refuses say (marked (raw_words text)) [] → Reason say senseless most text (refusal 4 n layer.Grammar)
  barring : (w : W) (r : List W) → length text ≤ most → Refuses say (marked (raw_words text)) (w ∷ r) → Reason say senseless most text (refusal 4 (place_before text r) layer.Grammar)
  faulting : (n : ℕ) (w : W) (r : List W) → length text ≤ most → Faults say (marked (raw_words text)) n w r → Reason say senseless most text (refusal n (place_before text r) (layer_of n))
  meaning : (x : X) (f : Refusal) → Spelled say most text x → senseless x f → Reason say senseless most text f

-- a 33rd predicate, at the name of its first appearance
abbrev pub TooManyPredicates : List tree.Rule → Refusal → Type 0
TooManyPredicates b f = (p : ℕ) × (listing [] (in_rules (map rule_model b)) ≡ excess p) × (refusal 5 p layer.Grammar ≡ f)

-- a predicate that the book lacks, at the name of the first fact that has one
abbrev pub Lacking : List Predicate → tree.Content → Refusal → Type 0
Lacking ps c f = (p : ℕ) × (unknowns ps (in_items (content_of [] c)) ≡ unknown_at p) × (refusal 9 p layer.Meaning ≡ f)

-- a text is refused exactly for a reason, and as the reason says
abbrev pub BooksRefused : Type 0
BooksRefused = (text : List ℕ) (f : Refusal) → (book_of text ≡ refused f) ↔ Reason say_book TooManyPredicates 8192 text f

abbrev pub GoalsRefused : Type 0
GoalsRefused = (ps : List Predicate) (text : List ℕ) (f : Refusal) → (goal_of ps text ≡ refused f) ↔ Reason say_goal (Lacking ps) 1024 text f
