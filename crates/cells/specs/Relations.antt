-- What a relation says of two whole numbers.
use Rattle.std.specs.Prelude.{◌≡◌, ℕ, Bool, List, codes, ◌&&◌, ◌||◌, ℤ, ◌≤ℤ◌, ◌<ℤ◌, Decides, ◌≢◌, int_le, int_lt}
use Rattle.cells.specs.declared.relations.Relation.{Relation}
use Rattle.cells.specs.declared.relations.Telling.{Telling}
use Rattle.cells.specs.declared.relations.Relation.TheVariants as relation
use Rattle.cells.specs.declared.relations.Telling.TheVariants as telling

-- whether a stands in the relation to b
abbrev pub holds : Relation → ℤ → ℤ → Bool
holds relation.Less a b = int_lt a b
holds relation.AtMost a b = int_le a b
holds relation.Equal a b = int_le a b && int_le b a
holds relation.AtLeast a b = int_le b a
holds relation.Greater a b = int_lt b a
holds relation.Different a b = int_lt a b || int_lt b a

-- as a book spells it
abbrev pub relation_text : Relation → List ℕ
relation_text relation.Less = codes "<"
relation_text relation.AtMost = codes "=<"
relation_text relation.Equal = codes "="
relation_text relation.AtLeast = codes ">="
relation_text relation.Greater = codes ">"
relation_text relation.Different = codes "\\="

-- the relation that is told
abbrev pub relation_of : Telling → Relation
relation_of telling.Less = relation.Less
relation_of telling.AtMost = relation.AtMost
relation_of telling.Equal = relation.Equal
relation_of telling.AtLeast = relation.AtLeast
relation_of telling.Greater = relation.Greater

-- whether a satisfies what is told of it: the relation and b
abbrev pub meets : Telling → ℤ → ℤ → Bool
meets t a b = holds (relation_of t) a b

-- the meaning of each relation, in terms of the order
pub record Means : Type 0 where
  pub less : (a b : ℤ) → Decides (holds relation.Less a b) (a <ℤ b)
  pub at_most : (a b : ℤ) → Decides (holds relation.AtMost a b) (a ≤ℤ b)
  pub equal : (a b : ℤ) → Decides (holds relation.Equal a b) (a ≡ b)
  pub at_least : (a b : ℤ) → Decides (holds relation.AtLeast a b) (b ≤ℤ a)
  pub greater : (a b : ℤ) → Decides (holds relation.Greater a b) (b <ℤ a)
  pub different : (a b : ℤ) → Decides (holds relation.Different a b) (a ≢ b)
