-- Rows of parts as plain values. Assumes nothing.
use Rattle.std.specs.Prelude.{ℕ, List, map}
use Rattle.syntax.specs.Parts.{Some}
use Rattle.parse.specs.Flaws.{listed}

abbrev pub row_view : {C T M : Type 0} → (T → M) → (C → List T) → C → List M
row_view view held r = map view (held r)

abbrev pub row_value : {M X : Type 0} → (List (List ℕ) → X → M) → List (List ℕ) → Some X → List M
row_value value us ys = map (value us) (listed ys)
