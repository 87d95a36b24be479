-- Changes undone from the last on. Assumes nothing.
use Rattle.std.proofs.Common.{◌≡◌, List, [], ◌∷◌, ◌++◌, map, sym, refl, ap, ◌∙◌}
use Rattle.std.proofs.lemmas.List.{map-append}
use Rattle.steps.specs.State.{State}
use Rattle.state.specs.declared.change.Change.{Change as CodeChange}
use Rattle.state.specs.Changes.{Change, change, undo_one, undone}

-- the last one first
undone_last : (cs : List Change) (c : Change) (s : State) → undone (cs ++ (c ∷ [])) s ≡ undone cs (undo_one c s)
undone_last [] c s = refl
undone_last (d ∷ cs) c s = ap (undo_one d) (undone_last cs c s)

-- one more undone: the last of what is left
pub undo_turn : (rest rest' : List CodeChange) (c : CodeChange) (s t goal : State) → rest ≡ rest' ++ (c ∷ []) → t ≡ undo_one (change c) s → undone (map change rest) s ≡ goal → undone (map change rest') t ≡ goal
undo_turn rest rest' c s t goal w e p =
    let last : map change rest ≡ map change rest' ++ (change c ∷ []) = ap (map change) w ∙ map-append change rest' (c ∷ []) in
    ap (undone (map change rest')) e ∙ sym (ap (λ l. undone l s) last ∙ undone_last (map change rest') (change c) s) ∙ p
