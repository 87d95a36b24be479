-- Examples, worked out.
use Rattle.std.specs.Prelude.{◌≡◌, ℕ, true, false, pos, negsuc, Some, None}
use Rattle.cells.specs.declared.relations.Relation.TheVariants as relation
use Rattle.cells.specs.declared.relations.Telling.TheVariants as telling
use Rattle.cells.specs.Bounds.{packed, bounds_asked, bounds_narrowed}
use Rattle.cells.specs.Sets.{window, set_narrowed, set_counted}

-- bounds 1 to 5
abbrev pub one_to_five : ℕ
one_to_five = packed (pos 1) (pos 5)

-- every member of 1 to 5 differs from 6, and not every one from 3
pub record AskedOfBounds : Type 0 where
  pub six : bounds_asked one_to_five relation.Different (pos 6) ≡ true
  pub three : bounds_asked one_to_five relation.Different (pos 3) ≡ false

-- the whole set, told to be at least 62, has the bits 62 and 63
pub record TwoLeft : Type 0 where
  pub left : set_narrowed (window 0 63) telling.AtLeast (pos 62) ≡ Some 0xc000_0000_0000_0000
  pub two : ◌≡◌ {A = ℕ} (set_counted 0xc000_0000_0000_0000) 2

-- each telling at the number that leaves none of 1 to 5, and at the number next to it
pub record EdgesOfBounds : Type 0 where
  pub less : bounds_narrowed one_to_five telling.Less (pos 1) ≡ None
  pub less_one : bounds_narrowed one_to_five telling.Less (pos 2) ≡ Some (packed (pos 1) (pos 1))
  pub at_most : bounds_narrowed one_to_five telling.AtMost (pos 0) ≡ None
  pub at_most_one : bounds_narrowed one_to_five telling.AtMost (pos 1) ≡ Some (packed (pos 1) (pos 1))
  pub equal_below : bounds_narrowed one_to_five telling.Equal (pos 0) ≡ None
  pub equal_least : bounds_narrowed one_to_five telling.Equal (pos 1) ≡ Some (packed (pos 1) (pos 1))
  pub equal_greatest : bounds_narrowed one_to_five telling.Equal (pos 5) ≡ Some (packed (pos 5) (pos 5))
  pub equal_above : bounds_narrowed one_to_five telling.Equal (pos 6) ≡ None
  pub at_least : bounds_narrowed one_to_five telling.AtLeast (pos 6) ≡ None
  pub at_least_one : bounds_narrowed one_to_five telling.AtLeast (pos 5) ≡ Some (packed (pos 5) (pos 5))
  pub greater : bounds_narrowed one_to_five telling.Greater (pos 5) ≡ None
  pub greater_one : bounds_narrowed one_to_five telling.Greater (pos 4) ≡ Some (packed (pos 5) (pos 5))

-- the same for the set of 3 and 5, which is 2 ^ 3 + 2 ^ 5
pub record EdgesOfSets : Type 0 where
  pub less : set_narrowed 40 telling.Less (pos 3) ≡ None
  pub less_one : set_narrowed 40 telling.Less (pos 4) ≡ Some 8
  pub at_most : set_narrowed 40 telling.AtMost (pos 2) ≡ None
  pub at_most_one : set_narrowed 40 telling.AtMost (pos 3) ≡ Some 8
  pub equal_between : set_narrowed 40 telling.Equal (pos 4) ≡ None
  pub equal_least : set_narrowed 40 telling.Equal (pos 3) ≡ Some 8
  pub equal_greatest : set_narrowed 40 telling.Equal (pos 5) ≡ Some 32
  pub equal_beyond : set_narrowed 40 telling.Equal (pos 64) ≡ None
  pub at_least : set_narrowed 40 telling.AtLeast (pos 6) ≡ None
  pub at_least_one : set_narrowed 40 telling.AtLeast (pos 5) ≡ Some 32
  pub at_least_negative : set_narrowed 40 telling.AtLeast (negsuc 0) ≡ Some 40
  pub greater : set_narrowed 40 telling.Greater (pos 5) ≡ None
  pub greater_one : set_narrowed 40 telling.Greater (pos 4) ≡ Some 32
