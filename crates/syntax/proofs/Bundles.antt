-- Parts with the kinds of word that begin them and that go on with them, and how they are put together. Assumes nothing.
use Rattle.std.proofs.Common.{◌≡◌, ℕ, zero, suc, Bool, true, false, not, ◌&&◌, ◌||◌, eqb, ◌⊎◌, List, [], ◌∷◌, ◌++◌, sym, refl, ap, ◌∙◌, subst, inl, inr}
use Rattle.std.proofs.lemmas.Bool.{eqb-true, or_cases, or_parts, or_left, or_right, and_parts, not-true, false≢true}
use Rattle.syntax.specs.Syntax.{W, sign, kind, mem, Note, fine, flaw, Said, front, Fine, Reader, one, nothing, both, ahead, fork, via, spoiled}
use Rattle.syntax.specs.Good.{Begins, Good}
use Rattle.syntax.specs.Parts.{last, mark, parts, say_parts}
use Rattle.syntax.proofs.Laws.{rest_fine, fine_app, say_both, both_good, say_one, one_good, nothing_good, say_fork, stops_fork, fork_good, via_good}
use Rattle.syntax.proofs.Several.{Stop, Free, Starts, only_self, mark_good, mark_forth, say_mark, begins_app, parts_begin, parts_good, parts_stop}

abbrev pub disjoint : List ℕ → List ℕ → Bool
disjoint [] ys = true
disjoint (x ∷ xs) ys = not (mem ys x) && disjoint xs ys

apart_by : (x : ℕ) (xs ys : List ℕ) (k : ℕ) → not (mem ys x) ≡ true → (mem xs k ≡ true → mem ys k ≡ false) → (eqb x k ≡ true) ⊎ (mem xs k ≡ true) → mem ys k ≡ false
apart_by x xs ys k n rec (inl e) = ap (mem ys) (sym (eqb-true x k e)) ∙ not-true (mem ys x) n
apart_by x xs ys k n rec (inr h) = rec h

pub apart : (xs ys : List ℕ) → disjoint xs ys ≡ true → (k : ℕ) → mem xs k ≡ true → mem ys k ≡ false
apart [] ys d k m = absurd (false≢true m)
apart (x ∷ xs) ys d k m = let b = and_parts (not (mem ys x)) (disjoint xs ys) d in apart_by x xs ys k b.0 (apart xs ys b.1 k) (or_cases (eqb x k) (mem xs k) m)

-- a word of two lists of kinds
or_of : (x : Bool) (y z : Bool) → (x || y) || z ≡ x || (y || z)
or_of true y z = refl
or_of false y z = refl

mem_app : (xs ys : List ℕ) (k : ℕ) → mem (xs ++ ys) k ≡ mem xs k || mem ys k
mem_app [] ys k = refl
mem_app (x ∷ xs) ys k = ap (λ b. eqb x k || b) (mem_app xs ys k) ∙ sym (or_of (eqb x k) (mem xs k) (mem ys k))

ahead_app : (xs ys : List ℕ) (r : List W) → ahead (xs ++ ys) r ≡ ahead xs r || ahead ys r
ahead_app xs ys [] = refl
ahead_app xs ys (w ∷ r) = mem_app xs ys (kind w)

stop_parts : (xs ys : List ℕ) (r : List W) → Stop (xs ++ ys) r → Stop xs r × Stop ys r
stop_parts xs ys r h = or_parts (ahead xs r) (ahead ys r) (sym (ahead_app xs ys r) ∙ h)

stop_none : (r : List W) → Stop [] r
stop_none [] = refl
stop_none (w ∷ r) = refl

begins_more : (xs ys : List ℕ) (s : Said) → Begins xs s → Begins (xs ++ ys) s
begins_more xs ys [] h = h
begins_more xs ys (x ∷ s) h = mem_app xs ys (kind x.0) ∙ or_left (mem xs (kind x.0)) (mem ys (kind x.0)) h

begins_also : (xs ys : List ℕ) (s : Said) → Begins ys s → Begins (xs ++ ys) s
begins_also xs ys [] h = h
begins_also xs ys (x ∷ s) h = mem_app xs ys (kind x.0) ∙ or_right (mem xs (kind x.0)) (mem ys (kind x.0)) h

stop_begins : (ks g : List ℕ) (s : Said) (r : List W) → disjoint ks g ≡ true → Begins ks s → Stop g (front s r)
stop_begins ks g [] r d h = absurd h
stop_begins ks g (x ∷ s) r d h = apart ks g d (kind x.0) h

-- a part that may be empty; a word of the kinds g may go on with it
pub record Tail {X : Type 0} (R : Reader X) (say : X → Said) (g : List ℕ) : Type 1 where
  pub S : X → List W → Type 0
  pub good : Good R say S
  pub stop : (x : X) (r : List W) → (Fine (say x) → Stop g r) → S x r

-- a part; the words of the kinds ks begin it
pub record Part {X : Type 0} (R : Reader X) (say : X → Said) (ks g : List ℕ) : Type 1 where
  pub S : X → List W → Type 0
  pub good : Good R say S
  pub stop : (x : X) (r : List W) → (Fine (say x) → Stop g r) → S x r
  pub opens : (x : X) → Begins ks (say x)
  pub starts : Starts ks say

pub one_part : {X : Type 0} (ks : List ℕ) (value : W → X) (note : W → Note) (spell : X → W) → X → ((x : X) → value (spell x) ≡ x) → ((x : X) → mem ks (kind (spell x)) ≡ true) → ((w : W) → mem ks (kind w) ≡ true → spell (value w) ≡ w) → Part (one ks value note) (say_one spell note) ks []
one_part ks value note spell any back kinds forth = record {
  S = λ _ _. Unit {0};
  good = one_good ks value note spell any back kinds forth;
  stop = λ x r h. tt;
  opens = kinds;
  starts = λ w m. (value w, note w, [], λ i. (forth w m i, note (forth w m i)) ∷ []);
}

pub mark_part : (c : ℕ) → Part (mark c) (say_mark c) (kind (sign c) ∷ []) []
mark_part c = record {
  S = λ _ _. Unit {0};
  good = mark_good c;
  stop = λ x r h. tt;
  opens = λ x. only_self (kind (sign c));
  starts = λ w m. (tt, fine, [], λ i. (mark_forth c w m i, fine) ∷ []);
}

-- one part behind another
module _ {X : Type 0} {Y : X → Type 0} {a : Reader X} {b : (x : X) → Reader (Y x)} {A : X → Said} {B : (x : X) → Y x → Said} where
  pub both_part : {ka ga kb gb : List ℕ} → disjoint kb ga ≡ true → Part a A ka ga → ((x : X) → Part (b x) (B x) kb gb) → Part (both a b) (say_both A B) ka gb
  both_part {ka} {ga} {kb} {gb} d pa pb = record {
    S = _;
    good = both_good pa.good (λ x. (pb x).good);
    stop = λ z r h. (pa.stop z.0 _ (λ f. subst (Stop ga) (sym (rest_fine (A z.0) (B z.0 z.1) r f)) (stop_begins kb ga (B z.0 z.1) r d ((pb z.0).opens z.1))), λ f. (pb z.0).stop z.1 r (λ e. h (fine_app (A z.0) (B z.0 z.1) f e)));
    opens = λ z. begins_app ka (A z.0) _ (pa.opens z.0);
    starts = λ w m. let s = pa.starts w m in ((s.0, (pb s.0).good.some), s.1, _, ap (λ t. t ++ B s.0 (pb s.0).good.some) s.3);
  }

  pub both_tail : {ka gb : List ℕ} → Part a A ka [] → ((x : X) → Tail (b x) (B x) gb) → Part (both a b) (say_both A B) ka gb
  both_tail {ka} {gb} pa pb = record {
    S = _;
    good = both_good pa.good (λ x. (pb x).good);
    stop = λ z r h. (pa.stop z.0 _ (λ f. stop_none _), λ f. (pb z.0).stop z.1 r (λ e. h (fine_app (A z.0) (B z.0 z.1) f e)));
    opens = λ z. begins_app ka (A z.0) _ (pa.opens z.0);
    starts = λ w m. let s = pa.starts w m in ((s.0, (pb s.0).good.some), s.1, _, ap (λ t. t ++ B s.0 (pb s.0).good.some) s.3);
  }

-- a part or nothing
option_stop : {X : Type 0} {R : Reader X} {A : X → Said} (ks g : List ℕ) (p : Part R A ks g) (z : X ⊎ Unit {0}) (r : List W) → (Fine (say_fork A (λ _. []) z) → Stop (ks ++ g) r) → stops_fork ks (λ _. []) p.S Free z r
option_stop ks g p (inl x) r h = p.stop x r (λ f. (stop_parts ks g r (h f)).1)
option_stop ks g p (inr u) r h = (tt, (stop_parts ks g r (h tt)).0)

pub option : {X : Type 0} {R : Reader X} {A : X → Said} {ks g : List ℕ} → Part R A ks g → Tail (fork ks R nothing) (say_fork A (λ _. [])) (ks ++ g)
option {ks = ks} {g = g} p = record { S = _; good = fork_good ks p.opens p.good nothing_good; stop = option_stop ks g p }

-- a part, or else one that may be empty
module _ {X Y : Type 0} {a : Reader X} {b : Reader Y} {A : X → Said} {B : Y → Said} {ka ga gb : List ℕ} (away : (y : Y) (r : List W) → (Fine (B y) → Stop ka r) → Stop ka (front (B y) r)) (pa : Part a A ka ga) (pb : Tail b B gb) where
  fork_tail_stop : (z : X ⊎ Y) (r : List W) → (Fine (say_fork A B z) → Stop (ka ++ (ga ++ gb)) r) → stops_fork ka B pa.S pb.S z r
  fork_tail_stop (inl x) r h = pa.stop x r (λ f. (stop_parts ga gb r (stop_parts ka (ga ++ gb) r (h f)).1).0)
  fork_tail_stop (inr y) r h =
      (pb.stop y r (λ f. (stop_parts ga gb r (stop_parts ka (ga ++ gb) r (h f)).1).1), away y r (λ f. (stop_parts ka (ga ++ gb) r (h f)).0))

  pub fork_tail : Tail (fork ka a b) (say_fork A B) (ka ++ (ga ++ gb))
  fork_tail = record { S = _; good = fork_good ka pa.opens pa.good pb.good; stop = fork_tail_stop }

-- one of two parts
module _ {X Y : Type 0} {a : Reader X} {b : Reader Y} {A : X → Said} {B : Y → Said} {ka ga kb gb : List ℕ} (d : disjoint kb ka ≡ true) (pa : Part a A ka ga) (pb : Part b B kb gb) where
  forked_stop : (z : X ⊎ Y) (r : List W) → (Fine (say_fork A B z) → Stop (ga ++ gb) r) → stops_fork ka B pa.S pb.S z r
  forked_stop (inl x) r h = pa.stop x r (λ f. (stop_parts ga gb r (h f)).0)
  forked_stop (inr y) r h = (pb.stop y r (λ f. (stop_parts ga gb r (h f)).1), stop_begins kb ka (B y) r d (pb.opens y))

  forked_opens : (z : X ⊎ Y) → Begins (ka ++ kb) (say_fork A B z)
  forked_opens (inl x) = begins_more ka kb (A x) (pa.opens x)
  forked_opens (inr y) = begins_also ka kb (B y) (pb.opens y)

  forked_starts : Starts (ka ++ kb) (say_fork A B)
  forked_starts w m = go (or_cases (mem ka (kind w)) (mem kb (kind w)) (sym (mem_app ka kb (kind w)) ∙ m))
    where
      go : (mem ka (kind w) ≡ true) ⊎ (mem kb (kind w) ≡ true) → (x : X ⊎ Y) × (n : Note) × (s : Said) × (say_fork A B x ≡ (w, n) ∷ s)
      go (inl h) = let s = pa.starts w h in (inl s.0, s.1, s.2, s.3)
      go (inr h) = let s = pb.starts w h in (inr s.0, s.1, s.2, s.3)

  pub fork_part : Part (fork ka a b) (say_fork A B) (ka ++ kb) (ga ++ gb)
  fork_part = record { S = _; good = fork_good ka pa.opens pa.good pb.good; stop = forked_stop; opens = forked_opens; starts = forked_starts }

-- the same part in another form
pub via_part : {X Y : Type 0} (f : X → Y) (g : Y → X) (B : Y → Said) {a : Reader X} {A : X → Said} {ks go : List ℕ} → ((y : Y) → f (g y) ≡ y) → ((x : X) → g (f x) ≡ x) → ((x : X) → B (f x) ≡ A x) → Part a A ks go → Part (via f a) B ks go
via_part f g B {A = A} {ks = ks} fg gf same p = record {
  S = _;
  good = via_good f g B fg gf same p.good;
  stop = λ y r h. p.stop (g y) r (λ e. h (subst Fine (sym (same (g y)) ∙ ap B (fg y)) e));
  opens = λ y. subst (Begins ks) (sym (same (g y)) ∙ ap B (fg y)) (p.opens (g y));
  starts = λ w m. let s = p.starts w m in (f s.0, s.1, s.2, same s.0 ∙ s.3);
}

pub via_tail : {X Y : Type 0} (f : X → Y) (g : Y → X) (B : Y → Said) {a : Reader X} {A : X → Said} {go : List ℕ} → ((y : Y) → f (g y) ≡ y) → ((x : X) → g (f x) ≡ x) → ((x : X) → B (f x) ≡ A x) → Tail a A go → Tail (via f a) B go
via_tail f g B fg gf same p = record {
  S = _;
  good = via_good f g B fg gf same p.good;
  stop = λ y r h. p.stop (g y) r (λ e. h (subst Fine (sym (same (g y)) ∙ ap B (fg y)) e));
}

-- the same kinds in another order
pub kinds_part : {X : Type 0} {R : Reader X} {A : X → Said} {ks ls g : List ℕ} → ((k : ℕ) → mem ls k ≡ mem ks k) → Part R A ks g → Part R A ls g
kinds_part {A = A} {ks = ks} {ls = ls} e p = record {
  S = p.S;
  good = p.good;
  stop = p.stop;
  opens = λ x. begins (A x) (p.opens x);
  starts = λ w m. p.starts w (sym (e (kind w)) ∙ m);
}
  where
    begins : (s : Said) → Begins ks s → Begins ls s
    begins [] h = h
    begins (x ∷ s) h = e (kind x.0) ∙ h

-- several parts with a mark between two
module _ {S X : Type 0} (sep : ℕ) (next : S → X → S) {say : S → X → Said} {ks g : List ℕ} {part : S → Reader X} (clear : mem g (kind (sign sep)) ≡ false) (p : (σ : S) → Part (part σ) (say σ) ks g) where
  several_starts : (k : ℕ) (σ : S) → Starts ks (say_parts sep say next k σ)
  several_starts zero σ w m = let s = (p σ).starts w m in (last s.0, flaw 5, s.2, ap (spoiled 5) s.3)
  several_starts (suc k) σ w m = let s = (p σ).starts w m in (last s.0, s.1, s.2, s.3)

  pub several : (k : ℕ) (σ : S) → Part (parts ks sep part next k σ) (say_parts sep say next k σ) ks (g ++ kind (sign sep) ∷ [])
  several k σ = record {
    S = _;
    good = parts_good sep next say (λ σ. (p σ).S) ks (λ σ. (p σ).opens) (λ σ. (p σ).starts) part (λ σ. (p σ).good) k σ;
    stop = λ xs r h. parts_stop sep next say (λ σ. (p σ).S) g clear (λ σ. (p σ).stop) k σ xs r (λ f. stop_parts g (kind (sign sep) ∷ []) r (h f));
    opens = parts_begin sep next say (λ σ. (p σ).S) ks (λ σ. (p σ).opens) k σ;
    starts = several_starts k σ;
  }
