-- The facts that a book mentions, in the order of the text. Assumes nothing.
use Rattle.std.specs.Prelude.{List, [], ◌∷◌, ◌++◌}
use Rattle.parse.specs.Model.{Mention, Item, add, tell, fail, Alternative}
use Rattle.parse.specs.Rules.{Rule}

abbrev pub in_item : Item → List Mention
in_item (add f) = f ∷ []
in_item (tell c) = []
in_item fail = []

abbrev pub gathered : {X : Type 0} → (X → List Mention) → List X → List Mention
gathered f [] = []
gathered f (x ∷ xs) = f x ++ gathered f xs

abbrev pub in_items : List Item → List Mention
in_items is = gathered in_item is

abbrev pub in_body : List Alternative → List Mention
in_body as' = gathered (λ a. in_items a.items) as'

-- heads before bodies
abbrev pub in_rule : Rule → List Mention
in_rule r = r.kept ++ (r.removed ++ in_body r.body)

abbrev pub in_rules : List Rule → List Mention
in_rules rs = gathered in_rule rs
