-- The two rules of look-ahead: an arrow knows whether a guard follows it, a number whether it is a weight. Marking moves no word. Assumes nothing.
use Rattle.std.specs.Prelude.{◌≡◌, ℕ, Bool, true, false, cond, not, ◌&&◌, ◌||◌, List, [], ◌∷◌, ◌==◌}
use Rattle.syntax.specs.Syntax.{W, name, var, num, weight, sign, kind, mem, ahead}
use Rattle.syntax.specs.Marks.{dot, semicolon, bar, colon, simplify, simplify_guarded, propagate, propagate_guarded}

-- whether the word is the mark
abbrev pub is_mark : ℕ → W → Bool
is_mark c w = mem (kind (sign c) ∷ []) (kind w)

-- a `|` comes before any `.`; the words end at the first fault of the letters
abbrev pub guard_ahead : List W → Bool
guard_ahead [] = false
guard_ahead (w ∷ r) = cond (is_mark bar w) true (cond (is_mark dot w) false (guard_ahead r))

abbrev pub marked_sign : ℕ → Bool → ℕ
marked_sign m g = cond (m == simplify) (cond g simplify_guarded simplify) (cond (m == propagate) (cond g propagate_guarded propagate) m)

-- a word as marked: `starts` tells whether it may begin an alternative, r are the words behind it
abbrev pub marked_word : Bool → W → List W → W
marked_word starts (name p s) r = name p s
marked_word starts (var v) r = var v
marked_word starts (num n) r = cond (starts && ahead (kind (sign colon) ∷ []) r) (weight n) (num n)
marked_word starts (weight n) r = weight n
marked_word starts (sign m) r = sign (marked_sign m (guard_ahead r))

-- an alternative may begin behind `|`, behind `;`, and behind an arrow without a guard
abbrev pub starts_behind : W → List W → Bool
starts_behind w r = is_mark bar w || (is_mark semicolon w || ((is_mark simplify w || is_mark propagate w) && not (guard_ahead r)))

abbrev pub marked_from : Bool → List W → List W
marked_from starts [] = []
marked_from starts (w ∷ r) = marked_word starts w r ∷ marked_from (starts_behind w r) r

-- the words of a whole text
abbrev pub marked : List W → List W
marked ws = marked_from false ws

-- the word as it is written
abbrev pub written_word : W → W
written_word (name p s) = name p s
written_word (var v) = var v
written_word (num n) = num n
written_word (weight n) = num n
written_word (sign m) = sign (cond (m == simplify_guarded) simplify (cond (m == propagate_guarded) propagate m))

abbrev pub written : List W → List W
written [] = []
written (w ∷ r) = written_word w ∷ written r

-- words as they come from a text: none is marked yet
abbrev pub Raw : List W → Type 0
Raw [] = Unit {0}
Raw (w ∷ r) = (written_word w ≡ w) × Raw r
