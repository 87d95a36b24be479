-- The examples, computed. Assumes nothing.
use Rattle.std.proofs.Common.{◌≡◌, ℕ, List, [], ◌∷◌, Some, codes, refl}
use Rattle.syntax.specs.Readers.{read_arguments, read_items, read_body, read_askings, read_heads, read_book, read_goal}
use Rattle.lexed.specs.Texts.{text_words}
use Rattle.tree.specs.Walks.{leaf}
use Rattle.book.specs.Reading.{Book, accepted, book_of, goal_of}
use Rattle.steps.specs.State.{Kind, answer}
use Rattle.steps.specs.Examples.{Examples, Gives, counts, seen, walked_book}

-- nothing is to do for `true`, whatever the book
done_at_once : (K : Kind) (b : Book) → seen counts (walked_book K (codes "?- true.") [] (accepted b)) ≡ Some (0 ∷ [], leaf answer, (0, 0))
unfolding goal_of text_words read_goal read_arguments read_items
done_at_once K b = refl

true_answers : (K : Kind) (text : List ℕ) (b : Book) → book_of text ≡ accepted b → Gives K counts text (codes "?- true.") [] (0 ∷ []) (leaf answer) (0, 0)
true_answers K text b e = rw e (done_at_once K b)

pub examples : Examples
unfolding book_of goal_of text_words read_book read_goal read_arguments read_items read_body read_askings read_heads
examples = record { choosing_key = refl; first_key = refl; second_key = refl; nothing_to_do = true_answers; propagates = refl; grows = refl }
