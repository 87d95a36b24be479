-- What the answers of the code's readers mean: how they agree with the grammar's reader. Assumes nothing.
use Rattle.std.specs.Prelude.{◌≡◌, ℕ, List, [], ◌∷◌, map, drop}
use Rattle.words.specs.declared.name.Name.{Name}
use Rattle.words.specs.Names.{name_bytes}
use Rattle.syntax.specs.Syntax.{W, Out, barred, flawed}
use Rattle.syntax.specs.Parts.{Some, last, more}
use Rattle.syntax.specs.Tree.{Label}
use Rattle.syntax.specs.Grammar.{label_name}
use Rattle.parse.specs.declared.flaw.Flaw.{Flaw}
use Rattle.parse.specs.declared.flaw.Flaw.TheVariants.{Barred, TooMany, Unbound, Reused, InGoal, Memory}

-- fault n at the first of these words
abbrev pub flawed_at : {X : Type 0} → ℕ → List W → Out X
flawed_at n [] = barred []
flawed_at n (w ∷ r) = flawed n w r

-- what the grammar's reader finds where the code finds a flaw; want of memory says nothing
abbrev pub FoundFlaw : {X : Type 0} → List W → Flaw → Out X → Type 0
FoundFlaw ws (Barred i) o = o ≡ barred (drop i ws)
FoundFlaw ws (TooMany i) o = o ≡ flawed_at 5 (drop i ws)
FoundFlaw ws (Unbound i) o = o ≡ flawed_at 6 (drop i ws)
FoundFlaw ws (Reused i) o = o ≡ flawed_at 7 (drop i ws)
FoundFlaw ws (InGoal i) o = o ≡ flawed_at 8 (drop i ws)
FoundFlaw ws Memory o = Unit {0}

-- the code's flaw is that of the grammar's reader
pub record Faulted {X : Type 0} (ws : List W) (f : Flaw) (o : Out X) : Type 0 where
  pub found : FoundFlaw ws f o

-- the tree is what a function makes of what was read
abbrev pub IsTo : {T X : Type 0} → (T → X) → T → X → Type 0
IsTo f x y = y ≡ f x

-- what was read is what a function makes of the tree
abbrev pub IsBy : {T X : Type 0} → (X → T) → T → X → Type 0
IsBy f x y = f y ≡ x

-- a function makes the same of the tree as another of what was read
abbrev pub IsAs : {T M X : Type 0} → (T → M) → (X → M) → T → X → Type 0
IsAs view flat x y = flat y ≡ view x

abbrev pub listed : {X : Type 0} → Some X → List X
listed (last x) = x ∷ []
listed (more x xs) = x ∷ listed xs

-- the same part by part, for a row of parts
abbrev pub AreAs : {C T M X : Type 0} → (C → List T) → (T → M) → (X → M) → C → Some X → Type 0
AreAs items view flat c ys = map flat (listed ys) ≡ map view (items c)

-- a name with its place
abbrev pub IsName : (ℕ × Name) → (ℕ × List ℕ) → Type 0
IsName x y = (y.0 ≡ x.0) × (y.1 ≡ name_bytes x.1)

-- a rule's name
abbrev pub IsLabel : Name → Label → Type 0
IsLabel n y = label_name y ≡ name_bytes n
