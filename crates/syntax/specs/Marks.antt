-- The codes of the marks and of the two words that no fact may be called by. Assumes nothing.
use Rattle.std.specs.Prelude.{ℕ}

abbrev pub at_mark : ℕ
at_mark = 0

abbrev pub comma : ℕ
comma = 1

abbrev pub dot : ℕ
dot = 2

abbrev pub semicolon : ℕ
semicolon = 3

abbrev pub bar : ℕ
bar = 4

abbrev pub backslash : ℕ
backslash = 5

abbrev pub open_mark : ℕ
open_mark = 6

abbrev pub close_mark : ℕ
close_mark = 7

abbrev pub plus : ℕ
plus = 8

abbrev pub minus : ℕ
minus = 9

abbrev pub colon : ℕ
colon = 10

abbrev pub hash : ℕ
hash = 11

abbrev pub ask : ℕ
ask = 12

abbrev pub less : ℕ
less = 13

abbrev pub at_most : ℕ
at_most = 14

abbrev pub equal : ℕ
equal = 15

abbrev pub at_least : ℕ
at_least = 16

abbrev pub greater : ℕ
greater = 17

abbrev pub different : ℕ
different = 18

-- `<=>` and `==>`; each is one word where a guard follows it and another where none does
abbrev pub simplify : ℕ
simplify = 19

abbrev pub simplify_guarded : ℕ
simplify_guarded = 20

abbrev pub propagate : ℕ
propagate = 21

abbrev pub propagate_guarded : ℕ
propagate_guarded = 22

-- `true` and `fail`
abbrev pub true_word : ℕ
true_word = 23

abbrev pub fail_word : ℕ
fail_word = 24
