-- What follows from the laws of a kind: a thing told stays so.
use Rattle.std.specs.Prelude.{◌≡◌, ℕ, Bool, true, ℤ, Some, Option}
use Rattle.cells.specs.declared.relations.Relation.{Relation}
use Rattle.cells.specs.declared.relations.Telling.{Telling}
use Rattle.cells.specs.Relations.{relation_of}

-- the three consequences, for a kind's contents, narrowing and asking
pub record Settles (content : ℕ → Bool) (narrowed : ℕ → Telling → ℤ → Option ℕ) (asked : ℕ → Relation → ℤ → Bool) : Type 0 where
  -- told the same again, what is left does not change
  pub stays : (c d : ℕ) (t : Telling) (n : ℤ) → narrowed c t n ≡ Some d → narrowed d t n ≡ Some d
  -- asked what was told, what is left says yes
  pub says : (c d : ℕ) (t : Telling) (n : ℤ) → narrowed c t n ≡ Some d → asked d (relation_of t) n ≡ true
  -- told what it already says, a content does not change
  pub keeps : (c : ℕ) (t : Telling) (n : ℤ) → content c ≡ true → asked c (relation_of t) n ≡ true → narrowed c t n ≡ Some c
