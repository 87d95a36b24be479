-- States within the limits. Assumes nothing.
use Rattle.std.specs.Prelude.{◌<◌, ◌≤◌, List, [], ◌∷◌, length}
use Rattle.steps.specs.State.{Stored, State}
use Rattle.steps.specs.Relations.{Every}

-- identifiers rise strictly
abbrev pub Rising : List Stored → Type 0
Rising [] = Unit {0}
Rising (f ∷ fs) = Every (λ g. f.identifier < g.identifier) fs × Rising fs

-- at most 128 entries, 128 facts and 256 firings; the store by rising identifier, all below the next
pub record Sound (s : State) : Type 0 where
  pub entries : length s.stack ≤ 128
  pub facts : length s.store ≤ 128
  pub firings : length s.history ≤ 256
  pub rising : Rising s.store
  pub below : Every (λ f. f.identifier < s.next) s.store
