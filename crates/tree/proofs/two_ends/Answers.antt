-- A search of the small machine, unit by unit, that enters the first alternative first.
use Rattle.std.proofs.Common.{ℕ, List, [], ◌∷◌, refl}
use Rattle.std.proofs.lemmas.List.Sorted.{IsPermutation-refl}
use Rattle.tree.specs.Searches.{Work, stepped, entered, exhausted, Search, out, Reached, fresh, more, makes_step, enters, runs_out}
use Rattle.tree.specs.Small.{Spot, small, left, right}
use Rattle.tree.proofs.Searched.{account}
use Rattle.tree.proofs.two_ends.Goals as goal

abbrev units : List Work
units = stepped ∷ entered (1 ∷ []) ∷ stepped ∷ entered (2 ∷ []) ∷ stepped ∷ stepped ∷ exhausted ∷ []

abbrev final : Search Spot ℕ
final = record { leaves = (1 ∷ [], 20) ∷ (2 ∷ [], 30) ∷ []; waiting = []; place = out; steps = 4 }

reached : Reached small units final
reached = more exhausted (more stepped (more stepped (more (entered (2 ∷ [])) (more stepped (more (entered (1 ∷ [])) (more stepped (fresh (IsPermutation-refl []))
    (makes_step refl (IsPermutation-refl ((1 ∷ [], left) ∷ (2 ∷ [], right) ∷ []))))
    (enters tt (IsPermutation-refl ((1 ∷ [], left) ∷ (2 ∷ [], right) ∷ []))))
    (makes_step refl (IsPermutation-refl ((2 ∷ [], right) ∷ []))))
    (enters tt (IsPermutation-refl ((2 ∷ [], right) ∷ []))))
    (makes_step refl (IsPermutation-refl [])))
    (makes_step refl (IsPermutation-refl [])))
    (runs_out tt)

pub returns : goal.returns
returns c = (account small units final reached).whole refl
