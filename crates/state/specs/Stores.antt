-- The store as the list of its facts, and how facts are added, removed and put back. Assumes nothing.
use Rattle.std.specs.Prelude.{◌≡◌, ℕ, suc, ◌+◌, ◌<◌, ◌≤◌, Bool, true, false, not, ◌&&◌, ◌⊎◌, List, [], ◌∷◌, ◌++◌, map, length, Some, None, Option, Ok, Err, Result, ◌==◌, nat_lt}
use Rattle.facts.specs.Views.{stored}
use Rattle.facts.specs.declared.fact.Stored.{Stored as CodeStored}
use Rattle.steps.specs.State as model
use Rattle.steps.specs.State.{Stored}
use Rattle.steps.specs.Matching.{among}
use Rattle.steps.specs.Relations.{identifiers}
use Rattle.state.specs.declared.store.Store.{Store}

abbrev pub facts_of : Store → List Stored
facts_of s = map stored s.list.items

-- a fact among others, in the order of identifiers
abbrev pub placed : Stored → List Stored → List Stored
placed f [] = f ∷ []
placed f (x ∷ xs) = elim (nat_lt x.identifier f.identifier) [ true ↦ x ∷ placed f xs | false ↦ f ∷ x ∷ xs ]

-- whether a fact can come back to a store whose next identifier is given: its identifier was given out and is not in the store, and
-- there is room
abbrev pub may_return : ℕ → Stored → List Stored → Bool
may_return next f xs = nat_lt 0 f.identifier && (nat_lt f.identifier next && (not (among f.identifier (identifiers xs)) && nat_lt (length xs) 128))

-- a fact that was removed comes back to its place, if it can
abbrev pub returned : ℕ → Stored → List Stored → List Stored
returned next f xs = elim (may_return next f xs) [ true ↦ placed f xs | false ↦ xs ]

-- whether a fact can be added again: it has the next identifier, another can follow, and there is room
abbrev pub may_follow : ℕ → Stored → List Stored → Bool
may_follow next f xs = f.identifier == next && (nat_lt next 65535 && nat_lt (length xs) 128)

-- how many facts have a lower identifier, up to the first that has not
abbrev pub lower : ℕ → List Stored → ℕ
lower i [] = 0
lower i (x ∷ xs) = elim (nat_lt x.identifier i) [ true ↦ suc (lower i xs) | false ↦ 0 ]

-- where the fact of an identifier stands; or, if it is not there, where it would: behind those of lower identifiers
abbrev pub Place : ℕ → List Stored → Result ℕ ℕ → Type 0
Place i xs (Ok at) = (at ≡ lower i xs) × (among i (identifiers xs) ≡ true)
Place i xs (Err at) = (at ≡ lower i xs) × (among i (identifiers xs) ≡ false)

-- a fact is added again, and the next identifier rises, if it can be
abbrev pub followed : ℕ → Stored → List Stored → List Stored
followed next f xs = elim (may_follow next f xs) [ true ↦ xs ++ (f ∷ []) | false ↦ xs ]

abbrev pub followed_next : ℕ → Stored → List Stored → ℕ
followed_next next f xs = elim (may_follow next f xs) [ true ↦ next + 1 | false ↦ next ]

-- the last one's identifier, or the one given where there is none
abbrev pub last_or : ℕ → List Stored → ℕ
last_or n [] = n
last_or n (x ∷ []) = x.identifier
last_or n (x ∷ y ∷ xs) = last_or n (y ∷ xs)

-- a fact entered under the next identifier, which rose by one; or none did, for want of room or of identifiers
abbrev pub Added : model.Fact → Store → Option CodeStored → Store → Type 0
Added f old (Some g) new =
    (stored g ≡ record { identifier = old.next; fact = f }) × (facts_of new ≡ facts_of old ++ (stored g ∷ [])) × (new.next ≡ old.next + 1) × (length (facts_of old) < 128) × (old.next < 65535)
Added f old None new = (new ≡ old) × ((128 ≤ length (facts_of old)) ⊎ (old.next ≡ 65535))
