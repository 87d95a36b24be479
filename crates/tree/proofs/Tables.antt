-- For a search that keeps numbers of branches: the paths of its table, in the order of its rows.
use Rattle.std.proofs.Common.{◌≡◌, ℕ, zero, suc, ◌+◌, ◌<◌, List, [], ◌∷◌, ◌++◌, map, length, sym, refl, ap, ◌∙◌, arith, length-append}
use Rattle.std.specs.List.{AllByRecursion}
use Rattle.std.specs.List.Sorted.{IsPermutation}
use Rattle.std.proofs.ByRecursion.{All-push, All-weaker}
use Rattle.std.proofs.lemmas.List.{get_or_append_left, get_or_push, append_assoc, map-append, map_push}
use Rattle.tree.specs.Walks.{Path}
pub use Rattle.tree.specs.Names.{name, called, numbers_from}
use Rattle.tree.proofs.Counts.{delta, times, times_append, times_map_shuffled, children}

-- two functions that agree on a list map it alike
pub map_same : {X Y : Type 0} (f g : X → Y) (xs : List X) → AllByRecursion (λ x. f x ≡ g x) xs → map f xs ≡ map g xs
map_same f g [] a = refl
map_same {X} {Y} f g (x ∷ xs) a = ap (λ (y : Y). y ∷ map f xs) a.0 ∙ ap (λ (l : List Y). g x ∷ l) (map_same f g xs a.1)

-- a row keeps its path when the table grows
pub name_kept : (names new : List Path) (i : ℕ) → i < length names → name (names ++ new) i ≡ name names i
name_kept names new i l = get_or_append_left names new [] i l

-- a choice of m has m alternatives
pub length_children : (p : Path) (m : ℕ) → length (children p m) ≡ m
length_children p zero = refl
length_children p (suc m) = let a = length-append (children p m) ((p ++ (suc m ∷ [])) ∷ []) in let b = length_children p m in omega arith

-- each of k numbers from the first on is below the next
numbers_from_below : (first k : ℕ) → AllByRecursion (λ i. i < first + k) (numbers_from first k)
numbers_from_below first zero = tt
numbers_from_below first (suc k) = All-push (λ i. i < first + suc k) (numbers_from first k) (first + k) (All-weaker (λ i. i < first + k) (λ i. i < first + suc k) (λ i l. omega arith) (numbers_from first k) (numbers_from_below first k)) (omega arith)

-- the rows pushed at a choice are named by its alternatives
pub names_fresh : (names : List Path) (p : Path) (m : ℕ) → map (name (names ++ children p m)) (numbers_from (length names) m) ≡ children p m
names_fresh names p zero = refl
names_fresh names p (suc m) =
    let last : Path = p ++ (suc m ∷ []) in
    let long : length (names ++ children p m) ≡ length names + m = let a = length-append names (children p m) in let b = length_children p m in omega arith in
    let e : names ++ (children p m ++ (last ∷ [])) ≡ (names ++ children p m) ++ (last ∷ []) = sym (append_assoc names (children p m) (last ∷ [])) in
    let kept : map (name ((names ++ children p m) ++ (last ∷ []))) (numbers_from (length names) m) ≡ map (name (names ++ children p m)) (numbers_from (length names) m) = map_same (name ((names ++ children p m) ++ (last ∷ []))) (name (names ++ children p m)) (numbers_from (length names) m) (All-weaker (λ i. i < length names + m) (λ i. name ((names ++ children p m) ++ (last ∷ [])) i ≡ name (names ++ children p m) i) (λ i l. name_kept (names ++ children p m) (last ∷ []) i (omega arith)) (numbers_from (length names) m) (numbers_from_below (length names) m)) in
    let at_last : name ((names ++ children p m) ++ (last ∷ [])) (length names + m) ≡ last = get_or_push (names ++ children p m) last [] (length names + m) long in
    ap (λ (l : List Path). map (name l) (numbers_from (length names) m ++ ((length names + m) ∷ []))) e
    ∙ map_push (name ((names ++ children p m) ++ (last ∷ []))) (numbers_from (length names) m) (length names + m)
    ∙ ap (λ (l : List Path). l ++ (name ((names ++ children p m) ++ (last ∷ [])) (length names + m) ∷ [])) (kept ∙ names_fresh names p m)
    ∙ ap (λ (x : Path). children p m ++ (x ∷ [])) at_last

module _ {W : Type 0} (num : W → ℕ) where
  -- the paths of a bag stay when the table grows
  pub called_kept : (names new : List Path) (bag : List W) → AllByRecursion (λ w. num w < length names) bag → called num (names ++ new) bag ≡ called num names bag
  called_kept names new bag a = map_same (λ w. name (names ++ new) (num w)) (λ w. name names (num w)) bag (All-weaker (λ w. num w < length names) (λ w. name (names ++ new) (num w) ≡ name names (num w)) (λ w l. name_kept names new (num w) l) bag a)

  -- what `held-choice` asks: the bag took in a row for each alternative
  pub bag_fork : (names : List Path) (p : Path) (m : ℕ) (bag fresh new : List W) → AllByRecursion (λ w. num w < length names) bag → called num (names ++ children p m) fresh ≡ children p m → IsPermutation (bag ++ fresh) new → (r : Path) → times r (called num (names ++ children p m) new) ≡ times r (called num names bag) + times r (children p m)
  bag_fork names p m bag fresh new a e s r =
      times_map_shuffled (λ w. name (names ++ children p m) (num w)) r (bag ++ fresh) new s
      ∙ ap (times r) (map-append (λ w. name (names ++ children p m) (num w)) bag fresh)
      ∙ times_append r (called num (names ++ children p m) bag) (called num (names ++ children p m) fresh)
      ∙ ap (λ (l : List Path). times r l + times r (called num (names ++ children p m) fresh)) (called_kept names (children p m) bag a)
      ∙ ap (λ (l : List Path). times r (called num names bag) + times r l) e

  -- what `held-enter` asks: the bag gave up w
  pub bag_take : (names : List Path) (w : W) (bag new : List W) → IsPermutation bag (w ∷ new) → (r : Path) → times r (called num names bag) ≡ delta r (name names (num w)) + times r (called num names new)
  bag_take names w bag new s r = sym (times_map_shuffled (λ x. name names (num x)) r bag (w ∷ new) s)
