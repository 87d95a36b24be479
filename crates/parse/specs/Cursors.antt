-- What is read from a cursor on, and how it agrees with the grammar's reader. Assumes nothing.
use Rattle.std.specs.Prelude.{◌≡◌, ℕ, ◌+◌, ◌<◌, Bool, true, false, List, [], ◌∷◌, length, drop, Ok, Err, Result}
use Rattle.syntax.specs.Syntax.{W, kind, sign, ahead, Out, ok}
use Rattle.syntax.specs.Parts.{mark}
use Rattle.parse.specs.declared.cursor.Cursor.{Cursor}
use Rattle.parse.specs.declared.flaw.Flaw.{Flaw}
use Rattle.parse.specs.declared.flaw.Flaw.TheVariants.{Barred}
use Rattle.parse.specs.declared.token.Token.{Token}
use Rattle.parse.specs.Tokens.{token_word, words}
use Rattle.parse.specs.Flaws.{Faulted}

-- all words, and those from the cursor's place on
abbrev pub whole : Cursor → List W
whole c = words c.tokens.now

abbrev pub rest : Cursor → List W
rest c = drop c.at (whole c)

-- whether no word is left
abbrev pub Ended : Bool → Cursor → Type 0
Ended true c = rest c ≡ []
Ended false c = (w : W) × (r : List W) × (rest c ≡ w ∷ r)

-- the word ahead, or the flaw that there is none
abbrev pub Stands : Result Token Flaw → Cursor → Type 0
Stands (Ok t) c = (c.at < length c.tokens.now) × (rest c ≡ token_word t ∷ drop (c.at + 1) (whole c))
Stands (Err f) c = (f ≡ Barred c.at) × (rest c ≡ [])

-- the mark k was taken, or does not stand there
abbrev pub Skips : ℕ → Cursor → Bool → Cursor → Type 0
Skips k c true d = (ahead (kind (sign k) ∷ []) (rest c) ≡ true) × (mark k (rest c) ≡ ok tt (rest d))
Skips k c false d = (rest c ≡ rest d) × (ahead (kind (sign k) ∷ []) (rest d) ≡ false)

-- a part was passed over
abbrev pub Passes : Result (Unit {0}) Flaw → Cursor → Out (Unit {0}) → Type 0
Passes (Ok u) d o = o ≡ ok tt (rest d)
Passes (Err f) d o = Faulted (whole d) f o

-- a part was read: the grammar's reader reads a tree that comes to the same, and leaves the words that the cursor leaves
abbrev pub Tells : {T X : Type 0} → (T → X → Type 0) → Result T Flaw → Cursor → Out X → Type 0
Tells {X = X} Is (Ok x) d o = (y : X) × Is x y × (o ≡ ok y (rest d))
Tells Is (Err f) d o = Faulted (whole d) f o
