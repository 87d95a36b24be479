-- The bytes of a name. Assumes nothing.
use Rattle.std.specs.Prelude.{◌≡◌, ℕ, ◌<◌, Bool, ◌&&◌, ◌⊎◌, List, [], ◌∷◌, length, take, Some, None, Option, ◌==◌}
use Rattle.std.specs.Str.{bytes_eq}
use Rattle.words.specs.declared.name.Name.{Name}

abbrev pub name_bytes : Name → List ℕ
name_bytes n = take n.count n.bytes

-- the name of these bytes, or none where there are none or more than twelve
abbrev pub Named : List ℕ → Option Name → Type 0
Named bs None = (length bs ≡ 0) ⊎ (12 < length bs)
Named bs (Some n) = name_bytes n ≡ bs

-- the bytes of `true` and of `fail`
abbrev pub true_bytes : List ℕ
true_bytes = 116 ∷ 114 ∷ 117 ∷ 101 ∷ []

abbrev pub fail_bytes : List ℕ
fail_bytes = 102 ∷ 97 ∷ 105 ∷ 108 ∷ []

-- what `==` of two names answers
abbrev pub name_eq : Name → Name → Bool
name_eq a b = bytes_eq a.bytes b.bytes && a.count == b.count
