-- What a contract sees of a bounded list: its items, and that there are not too many. Assumes nothing.
use Rattle.std.specs.Prelude.{◌≡◌, ℕ, ◌≤◌, List, length, take}
use Rattle.std.specs.Coded.{Coded, code_by, coded_list, le_prop}
use Rattle.std.proofs.Common.{sym, subst, take_all}
use Rattle.std.proofs.Math.Nat.{min-le_left}
use Rattle.std.proofs.lemmas.List.{length-take}
use mathlib.Core.HLevel.{is_prop→PathP}

-- the items in their order, of which there are no more than a number
pub record AtMost (T : Type 0) (most : ℕ) : Type 0 where
  pub items : List T
  pub few : length items ≤ most

module _ {T : Type 0} {most : ℕ} where
  -- the items decide the list
  pub same_items : (a b : AtMost T most) → a.items ≡ b.items → a ≡ b
  same_items a b e = λ i. record { items = e i; few = is_prop→PathP (λ j. length (e j) ≤ most) (λ j. le_prop) a.few b.few i }

  pub length-first : (xs : List T) → length (take most xs) ≤ most
  length-first xs = subst (λ n. n ≤ most) (sym (length-take most xs)) (min-le_left most (length xs))

  -- the first items of any list, as many as may be
  abbrev pub first_items : List T → AtMost T most
  first_items xs = record { items = take most xs; few = length-first xs }

  pub first_of_few : (a : AtMost T most) → first_items a.items ≡ a
  first_of_few a = same_items (first_items a.items) a (take_all most a.items a.few)

  -- a bounded list is stored as its items
  abbrev pub at_most_code : Coded T → Coded (AtMost T most)
  at_most_code code = code_by (List T) (coded_list code) (λ a. a.items) first_items first_of_few
