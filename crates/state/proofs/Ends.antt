-- The end of a list, and of the list of what its members are to a view. Assumes nothing.
use Rattle.std.proofs.Common.{◌≡◌, List, [], ◌∷◌, ◌++◌, map, sym, refl, ap, ◌∙◌}
use Rattle.std.proofs.lemmas.List.{map-append}
use Rattle.state.specs.Lists.{all_but_last}

pub but_last : {X : Type 0} (xs : List X) (x : X) → all_but_last (xs ++ (x ∷ [])) ≡ xs
but_last [] x = refl
but_last (y ∷ []) x = refl
but_last (y ∷ z ∷ xs) x = ap (λ l. y ∷ l) (but_last (z ∷ xs) x)

module _ {X Y : Type 0} (f : X → Y) where
  -- one more
  pub pushed_on : (items new : List X) (x : X) → new ≡ items ++ (x ∷ []) → map f new ≡ map f items ++ (f x ∷ [])
  pushed_on items new x e = ap (map f) e ∙ map-append f items (x ∷ [])

  -- the last comes off
  pub popped_off : (items new : List X) (x : X) → items ≡ new ++ (x ∷ []) → map f new ≡ all_but_last (map f items)
  popped_off items new x e = sym (ap all_but_last (pushed_on new items x e) ∙ but_last (map f new) (f x))
