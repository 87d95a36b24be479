-- Lemmas on lists of waiting branches.
use Rattle.std.proofs.Common.{◌≡◌, ℕ, ◌+◌, ◌<◌, ◌≤◌, List, [], ◌∷◌, ◌++◌, length, get_or, take, Some, None, Option, sym, ap, ◌∙◌, subst, append_assoc, take_all}
use Rattle.std.specs.List.Sorted.{IsPermutation}
use Rattle.std.proofs.lemmas.List.{take_more}
use Rattle.std.proofs.lemmas.List.Sorted.{IsPermutation-refl, IsPermutation-trans, IsPermutation-append_comm}
use Rattle.orders.specs.declared.branches.Waiting.{Waiting}
use Rattle.orders.specs.Bags.{Removed}
use Rattle.orders.specs.Rows.{FirstOut}

-- equal lists are shuffled
pub shuffled_same : {X : Type 0} (xs ys : List X) → ys ≡ xs → IsPermutation xs ys
shuffled_same {X} xs ys e =
    let P : List X → Type 0 = λ l. IsPermutation xs l in
    subst P (sym e) (IsPermutation-refl xs)

-- two lists in each other's place
pub shuffled_turn : {X : Type 0} (xs ys : List X) → IsPermutation (xs ++ ys) (ys ++ xs)
shuffled_turn xs ys = IsPermutation-append_comm xs ys

-- the next of the list is pushed
pub pushed : {X : Type 0} (old list items : List X) (i : ℕ) (d : X) → i < length list → items ≡ old ++ take i list → items ++ (get_or list i d ∷ []) ≡ old ++ take (i + 1) list
pushed old list items i d h e = rw e (rw (take_more list i d h) (append_assoc old (take i list) (get_or list i d ∷ [])))

-- all of the list is pushed
pub all_pushed : {X : Type 0} (old list items : List X) (i : ℕ) → length list ≤ i → items ≡ old ++ take i list → items ≡ old ++ list
all_pushed {X} old list items i h e = e ∙ ap (λ (l : List X). old ++ l) (take_all i list h)

-- a list in front of the row has joined the bag
pub joined_in_front : (row list after : List Waiting) → after ≡ list ++ row → IsPermutation (row ++ list) after
joined_in_front row list after e = IsPermutation-trans _ _ _ (IsPermutation-append_comm row list) (shuffled_same _ _ e)

-- the first of a row has left the bag
pub removed_first : (row after : List Waiting) (r : Option ℕ) → FirstOut row r after → Removed row r after
removed_first row after (Some n) (w, e) = (w, shuffled_same _ _ (sym e))
removed_first row after None (e, _) = e
