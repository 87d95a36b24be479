-- The longest mark at the front of three bytes, and how many it takes. Assumes nothing.
use Rattle.std.specs.Prelude.{ℕ, cond, ◌&&◌, Some, None, Option, ◌==◌}
use Rattle.words.specs.declared.marks.Mark.{Mark}
use Rattle.words.specs.declared.marks.Mark.TheVariants.{At, Comma, Dot, Semicolon, Bar, Backslash, Open, Close, Plus, Minus, Colon, Hash, Ask, Simplify, Propagate, Less, AtMost, Equal, AtLeast, Greater, Different}

abbrev one : ℕ → Option (Mark × ℕ)
one a =
    cond (a == 64) (Some (At, 1)) (cond (a == 44) (Some (Comma, 1)) (cond (a == 46) (Some (Dot, 1)) (cond (a == 59) (Some (Semicolon, 1))
    (cond (a == 124) (Some (Bar, 1)) (cond (a == 92) (Some (Backslash, 1)) (cond (a == 40) (Some (Open, 1)) (cond (a == 41) (Some (Close, 1))
    (cond (a == 43) (Some (Plus, 1)) (cond (a == 45) (Some (Minus, 1)) (cond (a == 58) (Some (Colon, 1)) (cond (a == 35) (Some (Hash, 1))
    (cond (a == 60) (Some (Less, 1)) (cond (a == 61) (Some (Equal, 1)) (cond (a == 62) (Some (Greater, 1)) None))))))))))))))

abbrev pub mark_of : ℕ → ℕ → ℕ → Option (Mark × ℕ)
mark_of a b c =
    cond (a == 60 && (b == 61 && c == 62)) (Some (Simplify, 3)) (cond (a == 61 && (b == 61 && c == 62)) (Some (Propagate, 3))
    (cond (a == 63 && b == 45) (Some (Ask, 2)) (cond (a == 61 && b == 60) (Some (AtMost, 2)) (cond (a == 62 && b == 61) (Some (AtLeast, 2))
    (cond (a == 92 && b == 61) (Some (Different, 2)) (one a))))))
