-- Words, readers of words, and what a part of the grammar says in words. Assumes nothing.
use Rattle.std.specs.Prelude.{ℕ, suc, Bool, false, cond, ◌||◌, ◌⊎◌, List, [], ◌∷◌, ◌==◌}
use Rattle.std.proofs.Common.{inl, inr}

-- a word: a name with the place where it stands, a variable, a number, a number that is a weight, or a mark by its code
pub data W : Type 0 where
  name : ℕ → List ℕ → W
  var : List ℕ → W
  num : ℕ → W
  weight : ℕ → W
  sign : ℕ → W

-- the kind of a word, by a number
abbrev pub kind : W → ℕ
kind (name p s) = 0
kind (var s) = 1
kind (num n) = 2
kind (weight n) = 3
kind (sign m) = suc (suc (suc (suc m)))

abbrev pub mem : List ℕ → ℕ → Bool
mem [] k = false
mem (x ∷ xs) k = x == k || mem xs k

-- what a word of a spelled part has against it: nothing, or a fault by its number
pub data Note : Type 0 where
  fine : Note
  flaw : ℕ → Note

-- a part of a book in words, each with its note
abbrev pub Said : Type 0
Said = List (W × Note)

-- the words alone
abbrev pub plain : Said → List W
plain [] = []
plain (x ∷ s) = x.0 ∷ plain s

-- the words as far as the first flaw, that word too, and then the words r
abbrev pub front_by : Note → List W → List W → List W
front_by fine s r = s
front_by (flaw n) s r = r

abbrev pub front : Said → List W → List W
front [] r = r
front (x ∷ s) r = x.0 ∷ front_by x.1 (front s r) r

abbrev pub FineBy : Note → Type 0 → Type 0
FineBy fine T = T
FineBy (flaw n) T = ⊥

abbrev pub Fine : Said → Type 0
Fine [] = Unit {0}
Fine (x ∷ s) = FineBy x.1 (Fine s)

-- what a reader answers: the part with the words left; a word that the grammar bars, or the end, with the words from it on;
-- a word that has a fault by its number, and the words after it
pub data Out (X : Type 0) : Type 0 where
  ok : X → List W → Out X
  barred : List W → Out X
  flawed : ℕ → W → List W → Out X

abbrev pub Reader : Type 0 → Type 0
Reader X = List W → Out X

abbrev pub after : {X Y : Type 0} → Out X → (X → List W → Out Y) → Out Y
after (ok x r) f = f x r
after (barred r) f = barred r
after (flawed n w r) f = flawed n w r

abbrev pub mapped : {X Y : Type 0} → (X → Y) → Out X → Out Y
mapped f (ok x r) = ok (f x) r
mapped f (barred r) = barred r
mapped f (flawed n w r) = flawed n w r

-- one word of some kinds, with the note that it has
abbrev pub noted : {X : Type 0} → Note → X → W → List W → Out X
noted fine x w r = ok x r
noted (flaw n) x w r = flawed n w r

abbrev pub one : {X : Type 0} → List ℕ → (W → X) → (W → Note) → Reader X
one ks value note [] = barred []
one ks value note (w ∷ r) = cond (mem ks (kind w)) (noted (note w) (value w) w r) (barred (w ∷ r))

abbrev pub nothing : Reader (Unit {0})
nothing ws = ok tt ws

abbrev pub both : {X : Type 0} {Y : X → Type 0} → Reader X → ((x : X) → Reader (Y x)) → Reader ((x : X) × Y x)
both a b ws = after (a ws) (λ x r. mapped (λ y. (x, y)) (b x r))

-- whether the word ahead is of some kinds
abbrev pub ahead : List ℕ → List W → Bool
ahead ks [] = false
ahead ks (w ∷ r) = mem ks (kind w)

abbrev pub fork : {X Y : Type 0} → List ℕ → Reader X → Reader Y → Reader (X ⊎ Y)
fork ks a b ws = cond (ahead ks ws) (mapped inl (a ws)) (mapped inr (b ws))

-- the end of the words, or a part
abbrev pub ended : {X : Type 0} → Reader X → Reader (X ⊎ Unit {0})
ended a [] = ok (inr tt) []
ended a (w ∷ r) = mapped inl (a (w ∷ r))

-- one part too many: a fault at its first word
abbrev pub over : {X : Type 0} → List ℕ → ℕ → Reader X
over ks n [] = barred []
over ks n (w ∷ r) = cond (mem ks (kind w)) (flawed n w r) (barred (w ∷ r))

abbrev pub spoiled : ℕ → Said → Said
spoiled n [] = []
spoiled n (x ∷ s) = (x.0, flaw n) ∷ s

-- the end of the words and nothing else
abbrev pub only_end : Reader (Unit {0})
only_end [] = ok tt []
only_end (w ∷ r) = barred (w ∷ r)

abbrev pub via : {X Y : Type 0} → (X → Y) → Reader X → Reader Y
via f a ws = mapped f (a ws)
