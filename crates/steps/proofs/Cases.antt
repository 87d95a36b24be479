-- The further walks, computed. Assumes nothing.
use Rattle.std.proofs.Common.{refl}
use lib.Count.{count_leading_zeros, count_trailing_zeros}
use Rattle.syntax.specs.Readers.{read_arguments, read_items, read_body, read_askings, read_heads, read_book, read_goal}
use Rattle.lexed.specs.Texts.{text_words}
use Rattle.book.specs.Reading.{book_of, goal_of}
use Rattle.steps.specs.Cases.{Cases}

pub cases : Cases
unfolding book_of goal_of text_words read_book read_goal read_arguments read_items read_body read_askings read_heads count_leading_zeros count_trailing_zeros
cases = record { woken-twice = refl; woken-and-gone = refl; no_member = refl; breaks-by-1 = refl; breaks_by_2 = refl; breaks_by_3 = refl; breaks-by-5 = refl }
