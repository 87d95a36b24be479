-- What the calls of an order do to its bag, the branches that wait. Shuffled xs ys: ys has the elements of xs, each as often, in any order.
use Rattle.std.specs.Prelude.{◌≡◌, ℕ, ◌+◌, ◌<◌, ◌≤◌, List, [], ◌∷◌, ◌++◌, length, Some, None, Ok, Err, Option, Result}
use Rattle.std.specs.List.Sorted.{IsPermutation}
use Rattle.orders.specs.declared.branches.Waiting.{Waiting}

-- the most branches that wait at one time
abbrev pub most_waiting : ℕ
most_waiting = 256

-- the waiting branch of this number and weight
abbrev pub branch : ℕ → ℕ → Waiting
branch n w = record { number = n; weight = w }

-- the bag after a list was offered: accepted, old and list together; refused exactly if they are too many
abbrev pub Joined : {E : Type 0} → List Waiting → List Waiting → Result (Unit {0}) E → List Waiting → Type 0
Joined old list (Ok x) new = (length old + length list ≤ most_waiting) × IsPermutation (old ++ list) new
Joined old list (Err e) new = most_waiting < length old + length list

-- the order after a list was offered: accepted, as the relation takes says; refused, the same value
abbrev pub Accepted : {S E : Type 0} → (S → List Waiting → S → Type 0) → S → List Waiting → Result (Unit {0}) E → S → Type 0
Accepted takes old list (Ok x) new = takes old list new
Accepted takes old list (Err e) new = new ≡ old

-- the bag after giving up: one branch of the number answered has left it; none exactly if none waited
abbrev pub Removed : List Waiting → Option ℕ → List Waiting → Type 0
Removed old (Some n) new = (w : ℕ) × IsPermutation old (branch n w ∷ new)
Removed old None new = old ≡ []

-- the order after giving up answered none: the same value
abbrev pub Kept : {S : Type 0} → S → Option ℕ → S → Type 0
Kept old (Some n) new = Unit {0}
Kept old None new = new ≡ old
