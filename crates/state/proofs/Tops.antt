-- A stack whose top is last in a list, seen from its top. Assumes nothing.
use Rattle.std.proofs.Common.{◌≡◌, ◌+◌, ◌-◌, ◌<◌, ◌≤◌, List, [], ◌∷◌, ◌++◌, map, reverse, length, get_or, take, Some, slice_get, sym, refl, ap, ◌∙◌, arith, take_all}
use Rattle.std.proofs.lemmas.List.{take_more, map-append, reverse-append, length-map, length-reverse}
use Rattle.std.proofs.lemmas.Option.{slice_get-get_or}
use Rattle.facts.specs.declared.entry.Entry.{Entry}
use Rattle.facts.specs.Views.{entry}
use Rattle.state.specs.Stacks.{entry_if, first}

module _ {X Y : Type 0} (f : X → Y) where
  pub turned : (items new : List X) (x : X) → new ≡ items ++ (x ∷ []) → reverse (map f new) ≡ f x ∷ reverse (map f items)
  turned items new x e = ap (λ l. reverse (map f l)) e ∙ ap reverse (map-append f items (x ∷ [])) ∙ reverse-append (map f items) (f x ∷ [])

  pub long : (items : List X) → length (reverse (map f items)) ≡ length items
  long items = length-reverse (map f items) ∙ length-map items f

  -- the top of a list that is not empty
  pub topped : (items : List X) (d : X) → 0 < length items → first (reverse (map f items)) ≡ Some (f (get_or items (length items - 1) d))
  topped items d h =
      let i = length items - 1 in
      let lt : i < length items = omega arith in
      let ge : length items ≤ i + 1 = omega arith in
      let e : items ≡ take i items ++ (get_or items i d ∷ []) = sym (take_all (i + 1) items ge) ∙ take_more items i d lt in
      ap first (turned (take i items) items (get_or items i d) e)

-- the last of a list is the top
pub on_top : (items : List Entry) → entry_if (slice_get items (length items - 1)) ≡ first (reverse (map entry items))
on_top [] = refl
on_top (x ∷ xs) = ap entry_if (slice_get-get_or (x ∷ xs) (length (x ∷ xs) - 1) x (omega arith)) ∙ sym (topped entry (x ∷ xs) x (omega arith))
