-- At most three of a kind, as a list. Assumes nothing.
use Rattle.std.specs.Prelude.{List, [], ◌∷◌}
use Rattle.parse.specs.declared.few.Few.{Few}
use Rattle.parse.specs.declared.few.Few.TheVariants.{Zero, One, Two, Three}

abbrev pub few_items : {X : Type 0} → Few X → List X
few_items Zero = []
few_items (One x) = x ∷ []
few_items (Two x y) = x ∷ y ∷ []
few_items (Three x y z) = x ∷ y ∷ z ∷ []
