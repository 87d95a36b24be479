-- Facts, paths and cells as bytes. Assumes nothing.
use Rattle.std.specs.Prelude.{ℕ, List, [], ◌∷◌, ◌++◌, ℤ, codes, decimal}
use Rattle.std.specs.Fmt.{signed_decimal}
use Rattle.std.specs.List.{flat_map}
use Rattle.steps.specs.State.{Value, cell}
use Rattle.facts.specs.Texts.{value_text}

-- more arguments, up to the closing bracket
abbrev pub more_text : List Value → List ℕ
more_text vs = flat_map (λ v. codes "," ++ value_text v) vs ++ codes ")"

-- the arguments in brackets; nothing where there are none
abbrev pub arguments_text : List Value → List ℕ
arguments_text [] = []
arguments_text (v ∷ vs) = codes "(" ++ (value_text v ++ more_text vs)

-- a fact: its name, and its arguments
abbrev pub fact_text : List ℕ → List Value → List ℕ
fact_text name vs = name ++ arguments_text vs

-- more numbers of a path
abbrev pub dotted : List ℕ → List ℕ
dotted = flat_map (λ i. codes "." ++ decimal i)

-- a path: `-` where it is empty, else its numbers with dots between them
abbrev pub path_text : List ℕ → List ℕ
path_text [] = codes "-"
path_text (i ∷ is) = decimal i ++ dotted is

-- from one member to another, and how many there are
abbrev pub members_text : ℤ → ℤ → ℕ → List ℕ
members_text least greatest count = codes " from " ++ (signed_decimal least ++ (codes " to " ++ (signed_decimal greatest ++ (codes ", " ++ (decimal count ++ codes " members")))))

-- a cell that is not whole
abbrev pub cell_text : ℕ → ℤ → ℤ → ℕ → List ℕ
cell_text k least greatest count = value_text (cell k) ++ members_text least greatest count
