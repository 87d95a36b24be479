-- The execution stack as the list of its entries, the top first. Assumes nothing.
use Rattle.std.specs.Prelude.{true, false, List, [], ◌∷◌, map, reverse, length, Some, None, Option, nat_lt}
use Rattle.facts.specs.Views.{entry}
use Rattle.facts.specs.declared.entry.Entry.{Entry}
use Rattle.steps.specs.State as model
use Rattle.state.specs.declared.stack.Stack.{Stack}

abbrev pub entries : Stack → List model.Entry
entries s = reverse (map entry s.list.items)

abbrev pub entry_if : Option Entry → Option model.Entry
entry_if None = None
entry_if (Some e) = Some (entry e)

-- the first of a list
abbrev pub first : {X : Type 0} → List X → Option X
first [] = None
first (x ∷ xs) = Some x

-- what stands below the first
abbrev pub below : {X : Type 0} → List X → List X
below [] = []
below (x ∷ xs) = xs

-- one more on top, unless 128 stand there
abbrev pub pushed : model.Entry → List model.Entry → List model.Entry
pushed e es = elim (nat_lt (length es) 128) [ true ↦ e ∷ es | false ↦ es ]
