-- A change that fits is undone. Assumes nothing.
use Rattle.std.proofs.Common.{◌≡◌, ℕ, suc, ◌+◌, ◌<◌, ◌≤◌, false, List, [], ◌∷◌, ◌++◌, length, set, sym, refl, ap, ◌∙◌, ⊎_elim, arith, set-set, le-ltb, lt-ltb}
use lib.Seq.{set-get_or}
use Rattle.std.proofs.lemmas.List.{map-append, length-map, length_push, length-set}
use Rattle.std.proofs.lemmas.Bool.{cases_lt, cases_eq}
use Rattle.facts.specs.Views.{stored, firing}
use Rattle.steps.specs.State.{Stored}
use Rattle.steps.specs.Matching.{among}
use Rattle.steps.specs.Step.{without}
use Rattle.steps.specs.Relations.{In, here, there, identifiers}
use Rattle.state.specs.Orders.{ordered}
use Rattle.state.specs.Lists.{all_but_last}
use Rattle.state.specs.Stores.{placed, followed_next, last_or, returned}
use Rattle.state.specs.Changes.{added, removed, fired, altered, redo_one, undo_one, redone, undone}
use Rattle.state.specs.Undoing.{HeldSound, StaysSound, ComesBack, AllComeBack, AllSound, MadeAgain}
use Rattle.state.proofs.Ends.{but_last}
use Rattle.state.proofs.Firings.{recorded}
use Rattle.state.proofs.Ordered.{Rises, rises, ordered_by, rises_from, rises_push, all_higher, kept_one, gone_one, same_numbers, last_is, among_more}
use Rattle.state.proofs.Places.{follows, followed_yes, may_come, returned_yes}
use Rattle.state.proofs.Same.{same_state}

-- a member stands between the ends
in_above : (f : Stored) (low high : ℕ) {xs : List Stored} → Rises low high (identifiers xs) → In f xs → low < f.identifier
in_above f low high r here = r.0
in_above f low high r (there {y} {xs} i) = let a = in_above f y.identifier high r.1 i in let b = r.0 in omega arith

rises_ends : (low high : ℕ) (ns : List ℕ) → Rises low high ns → low < high
rises_ends low high [] r = r
rises_ends low high (n ∷ ns) r = let a = rises_ends n high ns r.1 in let b = r.0 in omega arith

in_below : (f : Stored) (low high : ℕ) {xs : List Stored} → Rises low high (identifiers xs) → In f xs → f.identifier < high
in_below f low high r (here {xs}) = rises_ends f.identifier high (identifiers xs) r.1
in_below f low high r (there {y} {xs} i) = in_below f y.identifier high r.1 i

-- before those of higher identifiers
placed_first : (f : Stored) (high : ℕ) (xs : List Stored) → Rises f.identifier high (identifiers xs) → placed f xs ≡ f ∷ xs
placed_first f high [] r = refl
placed_first f high (x ∷ xs) r = let a = r.0 in rw (le-ltb x.identifier f.identifier (omega arith), placed)

placed_past : (f x : Stored) (xs : List Stored) → x.identifier < f.identifier → placed f (x ∷ xs) ≡ x ∷ placed f xs
placed_past f x xs h = rw (lt-ltb x.identifier f.identifier h, placed)

-- a fact removed comes back to its place
put_back : (f : Stored) (low high : ℕ) {xs : List Stored} → Rises low high (identifiers xs) → In f xs → placed f (without (f.identifier ∷ []) xs) ≡ xs
put_back f low high r (here {xs}) =
    ap (placed f) (gone_one f.identifier f xs refl ∙ all_higher f.identifier f.identifier high xs (omega arith) r.1) ∙ placed_first f high xs r.1
put_back f low high r (there {y} {xs} i) =
    let a : y.identifier < f.identifier = in_above f y.identifier high r.1 i in
    ap (placed f) (kept_one f.identifier y xs (λ e. omega arith)) ∙ placed_past f y (without (f.identifier ∷ []) xs) a ∙ ap (λ l. y ∷ l) (put_back f y.identifier high r.1 i)

placed_length : (f : Stored) (xs : List Stored) → length (placed f xs) ≡ suc (length xs)
placed_length f [] = refl
placed_length f (x ∷ xs) =
    ⊎_elim
    (λ a. rw (lt-ltb x.identifier f.identifier a, placed) (ap suc (placed_length f xs)))
    (λ a. rw (le-ltb x.identifier f.identifier a, placed))
    (cases_lt x.identifier f.identifier)

-- what is removed is not there
none_without : (i : ℕ) (xs : List Stored) → among i (identifiers (without (i ∷ []) xs)) ≡ false
none_without i [] = refl
none_without i (x ∷ xs) =
    ⊎_elim
    (λ e. ap (λ l. among i (identifiers l)) (gone_one i x xs e) ∙ none_without i xs)
    (λ n. ap (λ l. among i (identifiers l)) (kept_one i x xs n) ∙ among_more i x.identifier (identifiers (without (i ∷ []) xs)) (λ e. n (sym e)) ∙ none_without i xs)
    (cases_eq x.identifier i)

-- what is left rises
rises_without : (i low high : ℕ) (xs : List Stored) → Rises low high (identifiers xs) → Rises low high (identifiers (without (i ∷ []) xs))
rises_without i low high [] r = r
rises_without i low high (x ∷ xs) r =
    let a = r.0 in
    ⊎_elim
    (λ e. rw (gone_one i x xs e) (rises_from low x.identifier high (identifiers (without (i ∷ []) xs)) (omega arith) (rises_without i x.identifier high xs r.1)))
    (λ n. rw (kept_one i x xs n) (r.0, rises_without i x.identifier high xs r.1))
    (cases_eq x.identifier i)

removed_back : (next : ℕ) (f : Stored) (xs : List Stored) → Rises 0 next (identifiers xs) → length xs ≤ 128 → In f xs → returned next f (without (f.identifier ∷ []) xs) ≡ xs
removed_back next f xs r l i =
    let ys = without (f.identifier ∷ []) xs in
    let p : placed f ys ≡ xs = put_back f 0 next r i in
    let short : length ys < 128 = omega (arith, placed_length f ys, ap length p, l) in
    returned_yes next f ys (may_come next f ys (in_above f 0 next r i) (in_below f 0 next r i) (none_without f.identifier xs) short) ∙ p

length_without : (i : ℕ) (xs : List Stored) → length (without (i ∷ []) xs) ≤ length xs
length_without i [] = omega arith
length_without i (x ∷ xs) =
    let h = length_without i xs in
    ⊎_elim (λ e. rw (gone_one i x xs e) (omega arith)) (λ n. rw (kept_one i x xs n) (omega arith)) (cases_eq x.identifier i)

pub held_sound : HeldSound
held_sound s = record {
  rising = ap (ordered 0 s.store.next) (same_numbers s.store.list.items) ∙ s.store.rising;
  few = omega (arith, length-map s.store.list.items stored, s.store.list.few);
  short = omega (arith, length-map s.history.list.items firing, s.history.list.few);
  whole = s.cells.long;
}

pub stays_sound : StaysSound
stays_sound s h (added f) fits =
    let y = followed_yes s.next f s.store (follows s.next f s.store fits.0 fits.1 fits.2) in
    let names : identifiers (s.store ++ (f ∷ [])) ≡ identifiers s.store ++ (s.next ∷ []) = map-append (λ g. g.identifier) s.store (f ∷ []) ∙ ap (λ n. identifiers s.store ++ (n ∷ [])) fits.0 in
    let up = ordered_by 0 (s.next + 1) (identifiers s.store ++ (s.next ∷ [])) (rises_push 0 s.next (identifiers s.store) (rises 0 s.next (identifiers s.store) h.rising)) in
    record {
      rising = ap (λ l. ordered 0 (followed_next s.next f s.store) (identifiers l)) y.0 ∙ ap (λ n. ordered 0 n (identifiers (s.store ++ (f ∷ [])))) y.1 ∙ ap (ordered 0 (s.next + 1)) names ∙ up;
      few = omega (arith, ap length y.0, length_push s.store f, fits.2);
      short = h.short;
      whole = h.whole;
    }
stays_sound s h (removed f) fits = record {
  rising = ordered_by 0 s.next (identifiers (without (f.identifier ∷ []) s.store)) (rises_without f.identifier 0 s.next s.store (rises 0 s.next (identifiers s.store) h.rising));
  few = omega (arith, length_without f.identifier s.store, h.few);
  short = h.short;
  whole = h.whole;
}
stays_sound s h (fired f) fits = record {
  rising = h.rising;
  few = h.few;
  short = omega (arith, ap length (recorded f s.history fits), length_push s.history f, fits);
  whole = h.whole;
}
stays_sound s h (altered k o n) fits = record { rising = h.rising; few = h.few; short = h.short; whole = length-set s.cells k n ∙ h.whole }

pub comes_back : ComesBack
comes_back s h (added f) fits =
    let y = followed_yes s.next f s.store (follows s.next f s.store fits.0 fits.1 fits.2) in
    same_state _ s refl (ap all_but_last y.0 ∙ but_last s.store f) refl refl
    (ap (last_or (followed_next s.next f s.store)) y.0 ∙ last_is (followed_next s.next f s.store) s.store f ∙ fits.0)
comes_back s h (removed f) fits = same_state _ s refl (removed_back s.next f s.store (rises 0 s.next (identifiers s.store) h.rising) h.few fits) refl refl refl
comes_back s h (fired f) fits = same_state _ s refl refl refl (ap all_but_last (recorded f s.history fits) ∙ but_last s.history f) refl
comes_back s h (altered k o n) fits =
    same_state _ s refl refl (set-set s.cells k n o ∙ ap (set s.cells k) (sym fits.1) ∙ set-get_or s.cells k 0) refl refl

pub all_come_back : AllComeBack
all_come_back s h [] fits = refl
all_come_back s h (c ∷ cs) fits = ap (undo_one c) (all_come_back (redo_one c s) (stays_sound s h c fits.0) cs fits.1) ∙ comes_back s h c fits.0

pub all_sound : AllSound
all_sound s h [] fits = h
all_sound s h (c ∷ cs) fits = all_sound (redo_one c s) (stays_sound s h c fits.0) cs fits.1

pub made_again : MadeAgain
made_again s t h cs fits e = ap (redone cs) (ap (undone cs) e ∙ all_come_back s h cs fits) ∙ sym e
