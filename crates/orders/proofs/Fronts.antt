-- Giving up the first of a row again and again.
use Rattle.std.proofs.Common.{◌≡◌, ℕ, List, [], ◌∷◌, ◌++◌, sym, refl, ap, ◌∙◌, append_assoc, append-nil}
use Rattle.orders.specs.declared.branches.Waiting.{Waiting}
use Rattle.orders.specs.Rows.{FirstOut}
use Rattle.orders.specs.Drains.{numbers, Gave, nothing, further}

module _ {S : Type 0} (row : S → List Waiting) (before : S) where
  -- what was given, and what is left, are the row
  front : (after : S) (given : List ℕ) → Gave (λ s r t. FirstOut (row s) r (row t)) before given after → numbers (row before) ≡ given ++ numbers (row after)
  front after given nothing = refl
  front after given (further {ns} {s} n t out gave) =
      front s ns gave
      ∙ ap (λ (l : List Waiting). ns ++ numbers l) out.1
      ∙ sym (append_assoc ns (n ∷ []) (numbers (row t)))

  pub whole_row : (after : S) (given : List ℕ) → Gave (λ s r t. FirstOut (row s) r (row t)) before given after → row after ≡ [] → given ≡ numbers (row before)
  whole_row after given gave e = sym (front after given gave ∙ ap (λ (l : List Waiting). given ++ numbers l) e ∙ append-nil given)
