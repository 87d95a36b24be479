-- The examples, computed. Assumes nothing.
use Rattle.std.proofs.Common.{refl}
use Rattle.syntax.specs.Readers.{read_arguments, read_items, read_body, read_askings, read_heads, read_book, read_goal}
use Rattle.syntax.specs.Examples.{Examples}

pub examples : Examples
unfolding read_book read_goal read_arguments read_items read_body read_askings read_heads
examples = record {
  accepted = refl;
  fourth_head = refl;
  fourth-behind-three = refl;
  no_body = refl;
  too_short = refl;
  no-different = refl;
  loose-variable = refl;
  name-again = refl;
  accepted-goal = refl;
  variable_in_goal = refl;
  behind_goal = refl;
  heavy = refl;
  large-number = refl;
  no-weight-there = refl;
  no-weight-in-guard = refl;
  guard-of-the-next = refl;
  names_apart = refl;
  fail_again = (refl, refl);
  four-heads = (refl, refl);
  three-arguments = refl;
  fourth-argument = (refl, refl);
  last_cell = refl;
  cell_beyond = (refl, refl);
  heaviest = refl;
  heavier = (refl, refl);
  six = refl;
  seventh = (refl, refl);
  seventh_behind = (refl, refl);
  loose_first = (refl, refl);
  four_in_guard = refl;
  fifth_in_guard = (refl, refl);
  eight_items = refl;
  ninth_item = (refl, refl);
  eight_alternatives = refl;
  ninth_alternative = (refl, refl);
  sixteen_items = refl;
  seventeenth_item = (refl, refl);
  thirty_two_rules = refl;
  thirty_third_rule = (refl, refl);
}
