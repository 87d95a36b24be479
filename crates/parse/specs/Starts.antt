-- One part too many. Assumes nothing.
use Rattle.std.specs.Prelude.{◌≡◌, ℕ, true, false, List, drop}
use Rattle.syntax.specs.Syntax.{W, ahead}
use Rattle.parse.specs.declared.flaw.Flaw.{Flaw}
use Rattle.parse.specs.declared.flaw.Flaw.TheVariants.{Barred, TooMany, Unbound, Reused, InGoal, Memory}

-- the flaw of one part too many lies at its first word; a word that begins none is barred
abbrev pub Over : List W → Flaw → List ℕ → ℕ → Type 0
Over ws (Barred i) first at = (i ≡ at) × (ahead first (drop at ws) ≡ false)
Over ws (TooMany i) first at = (i ≡ at) × (ahead first (drop at ws) ≡ true)
Over ws (Unbound i) first at = ⊥
Over ws (Reused i) first at = ⊥
Over ws (InGoal i) first at = ⊥
Over ws Memory first at = ⊥
