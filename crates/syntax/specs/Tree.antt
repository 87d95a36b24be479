-- What books and goals are made of, with no limits: trees that the grammar spells. Assumes nothing.
use Rattle.std.specs.Prelude.{ℕ, List}
use Rattle.syntax.specs.Parts.{Some}

-- a number, perhaps behind `-`
pub data Number : Type 0 where
  positive : ℕ → Number
  negative : ℕ → Number

-- what may stand behind a variable: nothing, `+` or `-` and a number
pub data Sum : Type 0 where
  alone : Sum
  raised : ℕ → Sum
  lowered : ℕ → Sum

-- an argument of a head, and the left side of a comparison
pub data Left : Type 0 where
  number : Number → Left
  cell : ℕ → Left
  variable : List ℕ → Left

-- the right side of a comparison
pub data Right : Type 0 where
  fixed : Number → Right
  summed : List ℕ → Sum → Right

-- an argument of a fact in a body
pub data Argument : Type 0 where
  held : ℕ → Argument
  valued : Right → Argument

-- a fact: where its name stands, the name, and its arguments
pub data Fact (A : Type 0) : Type 0 where
  bare : ℕ → List ℕ → Fact A
  applied : ℕ → List ℕ → Some A → Fact A

-- what a guard may ask
pub data Relation : Type 0 where
  is_less : Relation
  is_at_most : Relation
  is_equal : Relation
  is_at_least : Relation
  is_greater : Relation
  is_different : Relation

-- what a body may tell
pub data Telling : Type 0 where
  tells_less : Telling
  tells_at_most : Telling
  tells_equal : Telling
  tells_at_least : Telling
  tells_greater : Telling

pub data Comparison (R : Type 0) : Type 0 where
  compared : Left → R → Right → Comparison R

pub data Item : Type 0 where
  added : Fact Argument → Item
  told : Comparison Telling → Item
  failing : Item

-- `true`, or items
pub data Content : Type 0 where
  nil : Content
  items : Some Item → Content

pub data Alternative : Type 0 where
  plainly : Content → Alternative
  weighted : ℕ → Content → Alternative

pub data Guard : Type 0 where
  none : Guard
  guarded : Some (Comparison Relation) → Guard

-- what follows the first heads: `==>`; `<=>`; or `\`, the removed heads and `<=>`
pub data Arrow : Type 0 where
  propagating : Guard → Arrow
  simplifying : Guard → Arrow
  simpagating : Some (Fact Left) → Guard → Arrow

-- a rule's name: where it stands and its bytes, or one of the two words
pub data Label : Type 0 where
  named : ℕ → List ℕ → Label
  named_true : Label
  named_fail : Label

pub data Rule : Type 0 where
  rule : Label → Some (Fact Left) → Arrow → Some Alternative → Rule
