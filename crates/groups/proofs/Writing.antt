-- Writing groups one by one. Assumes nothing.
use Rattle.std.proofs.Common.{◌≡◌, ℕ, suc, ◌+◌, ◌/◌, ◌%◌, ◌<◌, ◌≤◌, List, [], ◌∷◌, ◌++◌, length, get_or, take, drop, set, sym, refl, ap, ◌∙◌, append_assoc, add-one, arith}
use Rattle.std.proofs.lemmas.List.{length-drop, take_more, take_more_set, drop_more, drop_at, length-take-le}
use Rattle.std.proofs.lemmas.List.Edits.{sets, sets-eq}
use Rattle.groups.specs.Groups.{groups, written, Stands}
use Rattle.groups.specs.Laws.{Replaces}
use Rattle.groups.proofs.Shapes.{groups_high, groups_low}

-- the groups before a place are filled in, and those from there on are those of the rest
pub record Filling (part : List ℕ) (n i rest : ℕ) : Type 0 where
  pub before : take i part ≡ take i (groups n)
  pub behind : i < length (groups n) → drop i (groups n) ≡ groups rest

filled : (part gs cs : List ℕ) (i b : ℕ) → i < length part → i < length gs → take i part ≡ take i gs → drop i gs ≡ b ∷ cs → (take (i + 1) (set part i b) ≡ take (i + 1) gs) × (drop (i + 1) gs ≡ cs)
filled part gs cs i b within inside same e =
    let d : get_or gs i 0 ∷ drop (i + 1) gs ≡ b ∷ cs = sym (drop_more gs i 0 inside) ∙ e in
    let g : get_or gs i 0 ≡ b = cc in
    let m = take_more_set part i b within in
    let t = take_more gs i 0 inside in
    (cc, cc)

pub fill_low : (part : List ℕ) (n i rest b : ℕ) → b ≡ rest → i < length part → length part ≡ length (groups n) → rest < 128 → Filling part n i rest → Filling (set part i b) n (i + 1) (rest / 128)
fill_low part n i rest b e within sized low f =
    let h = filled part (groups n) [] i b within (omega arith) f.before (f.behind (omega arith) ∙ groups_low rest low ∙ ap (λ x. x ∷ []) (sym e)) in
    let l = length-drop (i + 1) (groups n) in
    let z = ap length h.1 in
    record { before = h.0; behind = λ more. absurd (omega arith) }

pub fill_high : (part : List ℕ) (n i rest b : ℕ) → b ≡ rest % 128 + 128 → i < length part → length part ≡ length (groups n) → 128 ≤ rest → Filling part n i rest → Filling (set part i b) n (i + 1) (rest / 128)
fill_high part n i rest b e within sized high f =
    let h = filled part (groups n) (groups (rest / 128)) i b within (omega arith) f.before (f.behind (omega arith) ∙ groups_high rest high ∙ ap (λ x. x ∷ groups (rest / 128)) (sym e)) in
    record { before = h.0; behind = λ _. h.1 }

written_sets : (bs out : List ℕ) (at : ℕ) → written out at bs ≡ sets out at bs
written_sets [] out at = refl
written_sets (b ∷ bs) out at = written_sets bs (set out at b) (at + 1) ∙ ap (λ k. sets (set out at b) k bs) (add-one at)

pub replaces : Replaces
replaces out at bs h = written_sets bs out at ∙ sets-eq bs out at h ∙ append_assoc (take at out) bs (drop (at + length bs) out)

-- what was written stands there
pub stands_written : (bs out : List ℕ) (at : ℕ) → at + length bs ≤ length out → Stands (written out at bs) at bs
stands_written bs out at h =
    (drop (at + length bs) out, ap (drop at) (replaces out at bs h) ∙ drop_at (take at out) (bs ++ drop (at + length bs) out) at (length-take-le at out (omega arith)))

-- writing two rows of bytes, one behind the other
pub written_both : (cs bs out : List ℕ) (at : ℕ) → written out at (cs ++ bs) ≡ written (written out at cs) (at + length cs) bs
written_both [] bs out at = let e : at ≡ at + 0 = omega arith in ap (λ k. written out k bs) e
written_both (c ∷ cs) bs out at =
    let e : at + 1 + length cs ≡ at + suc (length cs) = omega arith in
    written_both cs bs (set out at c) (at + 1) ∙ ap (λ k. written (written (set out at c) (at + 1) cs) k bs) e
