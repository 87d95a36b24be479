-- Two names are equal exactly if their spellings are. Assumes nothing.
use Rattle.std.proofs.Common.{◌≡◌, ℕ, ◌-◌, ◌≤◌, List, ◌++◌, length, take, drop, replicate, Decides, ◌==◌, sym, ap, ap₂, ◌∙◌, arith}
use Rattle.std.specs.Str.{bytes_eq}
use Rattle.std.proofs.lemmas.Bool.{and_parts, and_from, eqb-true, eq-eqb}
use Rattle.std.proofs.lemmas.List.{length-take-le, take-append-drop}
use Rattle.std.proofs.lemmas.Slice.Eq.{bytes_eq-Decides}
use Rattle.words.specs.declared.name.Name.{Name}
use Rattle.words.specs.Names.{name_bytes, name_eq}

-- lists of twelve that are 0 behind their first m and n are equal, and so are m and n, if they begin alike
pub padded_alike : (xs ys : List ℕ) (m n : ℕ) → length xs ≡ 12 → length ys ≡ 12 → m ≤ 12 → n ≤ 12 → drop m xs ≡ replicate (12 - m) 0 → drop n ys ≡ replicate (12 - n) 0
    → take m xs ≡ take n ys → (xs ≡ ys) × (m ≡ n)
padded_alike xs ys m n lx ly hm hn px py e =
    let same : m ≡ n = omega (arith, length-take-le m xs (omega arith), length-take-le n ys (omega arith), ap length e) in
    let zeros : drop m xs ≡ drop n ys = px ∙ ap (λ k. replicate (12 - k) 0) same ∙ sym py in
    (sym (take-append-drop m xs) ∙ ap₂ ◌++◌ e zeros ∙ take-append-drop n ys, same)

-- so `==` of two names, also within a type that derives it, compares their spellings
pub spelled_alike : (a b : Name) → Decides (name_eq a b) (name_bytes a ≡ name_bytes b)
spelled_alike a b = (
  λ e. let p = and_parts (bytes_eq a.bytes b.bytes) (a.count == b.count) e in ap₂ take (eqb-true a.count b.count p.1) ((bytes_eq-Decides a.bytes b.bytes).0 p.0),
  λ e. let p = padded_alike a.bytes b.bytes a.count b.count a.filled b.filled a.short b.short a.padded b.padded e in
      and_from (bytes_eq a.bytes b.bytes) (a.count == b.count) ((bytes_eq-Decides a.bytes b.bytes).1 p.0) (eq-eqb a.count b.count p.1),
)
