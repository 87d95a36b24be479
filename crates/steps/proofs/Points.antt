-- The small walks, computed. Assumes nothing.
use Rattle.std.proofs.Common.{refl}
use lib.Count.{count_leading_zeros, count_trailing_zeros}
use Rattle.syntax.specs.Readers.{read_arguments, read_items, read_body, read_askings, read_heads, read_book, read_goal}
use Rattle.lexed.specs.Texts.{text_words}
use Rattle.book.specs.Reading.{book_of, goal_of}
use Rattle.steps.specs.Points.{Points}

pub points : Points
unfolding book_of goal_of text_words read_book read_goal read_arguments read_items read_body read_askings read_heads count_leading_zeros count_trailing_zeros
points = record {
  first_partner = refl;
  two_heads_two_facts = refl;
  unchanged = refl;
  lowest-woken = refl;
  gone-but-active = refl;
  unequal = refl;
  untrue = refl;
  large_sum = refl;
  false_told = refl;
  cell_told = refl;
  too_low = refl;
  first_cause_1 = refl;
  first_cause_2 = refl;
  stack_alone = refl;
  stack_later = refl;
}
