-- The examples, computed. Assumes nothing.
use Rattle.std.proofs.Common.{refl}
use Rattle.syntax.specs.Readers.{read_arguments, read_items, read_body, read_askings, read_heads, read_book, read_goal}
use Rattle.lexed.specs.Texts.{text_words}
use Rattle.book.specs.Reading.{book_of, goal_of}
use Rattle.book.specs.Examples.{Examples}

pub examples : Examples
unfolding book_of goal_of text_words read_book read_goal read_arguments read_items read_body read_askings read_heads
examples = record {
  drives = refl;
  asks = refl;
  nothing = refl;
  stray = refl;
  long_name = refl;
  large = refl;
  no_argument = refl;
  cut_short = refl;
  told_different = refl;
  fourth_head = refl;
  heavy = refl;
  unbound = refl;
  reused = refl;
  variable_asked = refl;
  unknown = refl;
  empty_goal = refl;
}
