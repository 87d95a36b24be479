-- The readers that the parts are made of are right. Assumes nothing.
use Rattle.std.proofs.Common.{◌≡◌, ℕ, Bool, true, false, cond, ◌⊎◌, List, [], ◌∷◌, ◌++◌, sym, refl, ap, ◌∙◌, subst, inl, inr}
use Rattle.std.proofs.lemmas.Bool.{cond-true, cond-false}
use Rattle.syntax.specs.Syntax.{W, kind, mem, Note, fine, flaw, Said, front, front_by, Fine, FineBy, Out, ok, barred, flawed, Reader, after, mapped, noted, one, nothing, both, ahead, fork, ended, over, spoiled, via, only_end}
use Rattle.syntax.specs.Good.{Agree, Flawed, FlawedBy, verdict, verdict_by, Begins, Honest, Good}

-- what stands behind a part when another part and then r come
abbrev pub rest_by : Note → List W → List W → List W
rest_by fine t r = t
rest_by (flaw n) t r = r

abbrev pub rest : Said → Said → List W → List W
rest [] b r = front b r
rest (x ∷ s) b r = rest_by x.1 (rest s b r) r

front_app : (a b : Said) (r : List W) → front (a ++ b) r ≡ front a (rest a b r)
front_app [] b r = refl
front_app ((w, fine) ∷ s) b r = ap (λ t. w ∷ t) (front_app s b r)
front_app ((w, flaw n) ∷ s) b r = refl

verdict_app : {X : Type 0} (a b : Said) (r : List W) (o : Out X) → verdict (a ++ b) r o ≡ verdict a (rest a b r) (verdict b r o)
verdict_app [] b r o = refl
verdict_app ((w, fine) ∷ s) b r o = verdict_app s b r o
verdict_app ((w, flaw n) ∷ s) b r o = refl

pub rest_fine : (a b : Said) (r : List W) → Fine a → rest a b r ≡ front b r
rest_fine [] b r f = refl
rest_fine ((w, fine) ∷ s) b r f = rest_fine s b r f
rest_fine ((w, flaw n) ∷ s) b r f = absurd f

rest_flawed : (a b : Said) (r : List W) (n : ℕ) (w : W) → Flawed n w a → rest a b r ≡ r
rest_flawed [] b r n w f = absurd f
rest_flawed ((v, fine) ∷ s) b r n w f = rest_flawed s b r n w f
rest_flawed ((v, flaw m) ∷ s) b r n w f = refl

pub verdict_fine : {X : Type 0} (a : Said) (r : List W) (o : Out X) → Fine a → verdict a r o ≡ o
verdict_fine [] r o f = refl
verdict_fine ((w, fine) ∷ s) r o f = verdict_fine s r o f
verdict_fine ((w, flaw n) ∷ s) r o f = absurd f

verdict_if : {X : Type 0} (a : Said) (r : List W) (o u : Out X) → (Fine a → o ≡ u) → verdict a r o ≡ verdict a r u
verdict_if [] r o u e = e tt
verdict_if ((w, fine) ∷ s) r o u e = verdict_if s r o u e
verdict_if ((w, flaw n) ∷ s) r o u e = refl

after_verdict : {X Y : Type 0} (a : Said) (r : List W) (o : Out X) (k : X → List W → Out Y) → after (verdict a r o) k ≡ verdict a r (after o k)
after_verdict [] r o k = refl
after_verdict ((w, fine) ∷ s) r o k = after_verdict s r o k
after_verdict ((w, flaw n) ∷ s) r o k = refl

mapped_verdict : {X Y : Type 0} (f : X → Y) (a : Said) (r : List W) (o : Out X) → mapped f (verdict a r o) ≡ verdict a r (mapped f o)
mapped_verdict f [] r o = refl
mapped_verdict f ((w, fine) ∷ s) r o = mapped_verdict f s r o
mapped_verdict f ((w, flaw n) ∷ s) r o = refl

pub fine_app : (a b : Said) → Fine a → Fine b → Fine (a ++ b)
fine_app [] b f g = g
fine_app ((w, fine) ∷ s) b f g = fine_app s b f g
fine_app ((w, flaw n) ∷ s) b f g = f

pub fine_parts : (a b : Said) → Fine (a ++ b) → Fine a × Fine b
fine_parts [] b f = (tt, f)
fine_parts ((w, fine) ∷ s) b f = fine_parts s b f
fine_parts ((w, flaw n) ∷ s) b f = absurd f

flawed_app : (a b : Said) (n : ℕ) (w : W) → Flawed n w a → Flawed n w (a ++ b)
flawed_app [] b n w f = absurd f
flawed_app ((v, fine) ∷ s) b n w f = flawed_app s b n w f
flawed_app ((v, flaw m) ∷ s) b n w f = f

flawed_after : (a b : Said) (n : ℕ) (w : W) → Fine a → Flawed n w b → Flawed n w (a ++ b)
flawed_after [] b n w f g = g
flawed_after ((v, fine) ∷ s) b n w f g = flawed_after s b n w f g
flawed_after ((v, flaw m) ∷ s) b n w f g = absurd f

app_assoc : (a b c : Said) → (a ++ b) ++ c ≡ a ++ (b ++ c)
app_assoc [] b c = refl
app_assoc (x ∷ s) b c = ap (λ t. x ∷ t) (app_assoc s b c)

agree_front : (p : Said) (r u : List W) → Agree r u → Agree (front p r) (front p u)
agree_front [] r u h = h
agree_front (x ∷ s) r u h = (front_by x.1 (front s u) u, refl)

agree_rest : (a b : Said) (r u : List W) → Agree r u → Agree (rest a b r) (rest a b u)
agree_rest [] b r u h = agree_front b r u h
agree_rest ((w, fine) ∷ s) b r u h = agree_rest s b r u h
agree_rest ((w, flaw n) ∷ s) b r u h = h

agree_ahead : (ks : List ℕ) (r u : List W) → Agree r u → ahead ks u ≡ ahead ks r
agree_ahead ks [] u h = ap (ahead ks) h
agree_ahead ks (w ∷ r) u h = ap (ahead ks) h.1

begins_ahead : (ks : List ℕ) (s : Said) (r : List W) → Begins ks s → ahead ks (front s r) ≡ true
begins_ahead ks [] r h = absurd h
begins_ahead ks (x ∷ s) r h = h

-- two parts, one behind the other
abbrev pub say_both : {X : Type 0} {Y : X → Type 0} → (X → Said) → ((x : X) → Y x → Said) → ((x : X) × Y x) → Said
say_both A B z = A z.0 ++ B z.0 z.1

abbrev pub stops_both : {X : Type 0} {Y : X → Type 0} → (X → Said) → ((x : X) → Y x → Said) → (X → List W → Type 0) → ((x : X) → Y x → List W → Type 0) → ((x : X) × Y x) → List W → Type 0
stops_both A B SA SB z r = SA z.0 (rest (A z.0) (B z.0 z.1) r) × (Fine (A z.0) → SB z.0 z.1 r)

module _ {X : Type 0} {Y : X → Type 0} {a : Reader X} {b : (x : X) → Reader (Y x)} {A : X → Said} {B : (x : X) → Y x → Said} {SA : X → List W → Type 0} {SB : (x : X) → Y x → List W → Type 0} where
  module _ (ga : Good a A SA) (gb : (x : X) → Good (b x) (B x) (SB x)) where
    next : (x : X) → List W → Out ((x : X) × Y x)
    next x r = mapped (λ y. (x, y)) (b x r)

    both_reads : (z : (x : X) × Y x) (r : List W) → stops_both A B SA SB z r → both a b (front (say_both A B z) r) ≡ verdict (say_both A B z) r (ok z r)
    unfolding next
    both_reads (x, y) r (sa, sb) =
        let t : List W = rest (A x) (B x y) r in
        ap (both a b) (front_app (A x) (B x y) r)
        ∙ ap (λ o. after o next) (ga.reads x t sa)
        ∙ after_verdict (A x) t (ok x t) next
        ∙ verdict_if (A x) t (next x t) (verdict (B x y) r (ok (x, y) r)) (λ f.
        ap (next x) (rest_fine (A x) (B x y) r f)
        ∙ ap (mapped (λ y. (x, y))) ((gb x).reads y r (sb f))
        ∙ mapped_verdict (λ y. (x, y)) (B x y) r (ok y r))
        ∙ sym (verdict_app (A x) (B x y) r (ok (x, y) r))

    both_second : (ws : List W) (x : X) (r : List W) → Fine (A x) → ws ≡ front (A x) r → SA x r → (o : Out (Y x)) → Honest (b x) (B x) (SB x) r o → Honest (both a b) (say_both A B) (stops_both A B SA SB) ws (mapped (λ y. (x, y)) o)
    unfolding next
    both_second ws x r f e s (ok y t) (g, h, u) =
        (fine_app (A x) (B x y) f g, e ∙ ap (front (A x)) (h ∙ sym (rest_fine (A x) (B x y) t f)) ∙ sym (front_app (A x) (B x y) t), (subst (SA x) (h ∙ sym (rest_fine (A x) (B x y) t f)) s, λ _. u))
    both_second ws x r f e s (flawed n w t) (y, g, h) =
        ((x, y), flawed_after (A x) (B x y) n w f g, e ∙ ap (front (A x)) (h ∙ sym (rest_fine (A x) (B x y) t f)) ∙ sym (front_app (A x) (B x y) t))
    both_second ws x r f e s (barred t) (y, p, q, d, g, h, loc) = (
      (x, y),
      A x ++ p,
      q,
      ap (λ z. A x ++ z) d ∙ sym (app_assoc (A x) p q),
      fine_app (A x) p f g,
      e ∙ ap (front (A x)) (h ∙ sym (rest_fine (A x) p t f)) ∙ sym (front_app (A x) p t),
      λ u k.
          ap (both a b) (front_app (A x) p u ∙ ap (front (A x)) (rest_fine (A x) p u f))
          ∙ ap (λ o. after o next) (ga.reads x (front p u) (ga.keeps x r (front p u) (subst (λ z. Agree z (front p u)) (sym h) (agree_front p t u k)) s) ∙ verdict_fine (A x) (front p u) (ok x (front p u)) f)
          ∙ ap (mapped (λ y. (x, y))) (loc u k),
    )

    both_first : (ws : List W) (o : Out X) → Honest a A SA ws o → Honest (both a b) (say_both A B) (stops_both A B SA SB) ws (after o next)
    unfolding next
    both_first ws (ok x r) (f, e, s) = both_second ws x r f e s (b x r) ((gb x).honest r)
    both_first ws (flawed n w r) (x, f, e) =
        let y : Y x = (gb x).some in
        ((x, y), flawed_app (A x) (B x y) n w f, e ∙ ap (front (A x)) (sym (rest_flawed (A x) (B x y) r n w f)) ∙ sym (front_app (A x) (B x y) r))
    both_first ws (barred r) (x, p, q, d, f, e, loc) =
        let y : Y x = (gb x).some in
        ((x, y), p, q ++ B x y, ap (λ z. z ++ B x y) d ∙ app_assoc p q (B x y), f, e, λ u k. ap (λ o. after o next) (loc u k))

    pub both_good : Good (both a b) (say_both A B) (stops_both A B SA SB)
    unfolding next
    both_good = record {
      some = (ga.some, (gb ga.some).some);
      keeps = λ z r u h s. (ga.keeps z.0 _ _ (agree_rest (A z.0) (B z.0 z.1) r u h) s.0, λ f. (gb z.0).keeps z.1 r u h (s.1 f));
      reads = both_reads;
      honest = λ ws. both_first ws (a ws) (ga.honest ws);
    }

-- one word
abbrev pub say_one : {X : Type 0} → (X → W) → (W → Note) → X → Said
say_one spell note x = (spell x, note (spell x)) ∷ []

module _ {X : Type 0} (ks : List ℕ) (value : W → X) (note : W → Note) (spell : X → W) where
  one_noted : (n : Note) (x : X) (w : W) (r : List W) → noted n x w (front_by n r r) ≡ verdict_by n w r (ok x r)
  one_noted fine x w r = refl
  one_noted (flaw n) x w r = refl

  module _ (any : X) (back : (x : X) → value (spell x) ≡ x) (kinds : (x : X) → mem ks (kind (spell x)) ≡ true) (forth : (w : W) → mem ks (kind w) ≡ true → spell (value w) ≡ w) where
    one_word : (w : W) (r : List W) (n : Note) → mem ks (kind w) ≡ true → note w ≡ n → Honest (one ks value note) (say_one spell note) (λ _ _. Unit {0}) (w ∷ r) (noted n (value w) w r)
    one_word w r fine m e = (subst (λ v. FineBy v (Unit {0})) (sym (ap note (forth w m) ∙ e)) tt, ap (λ v. v ∷ r) (sym (forth w m)) ∙ ap (λ n. spell (value w) ∷ front_by n r r) (sym (ap note (forth w m) ∙ e)), tt)
    one_word w r (flaw n) m e = (value w, subst (λ v. FlawedBy v n w (spell (value w)) ⊥) (sym (ap note (forth w m) ∙ e)) (refl, forth w m), ap (λ v. v ∷ r) (sym (forth w m)) ∙ ap (λ n. spell (value w) ∷ front_by n r r) (sym (ap note (forth w m) ∙ e)))

    one_honest : (ws : List W) → Honest (one ks value note) (say_one spell note) (λ _ _. Unit {0}) ws (one ks value note ws)
    one_honest [] = (any, [], (say_one spell note) any, refl, tt, refl, λ u e. ap (one ks value note) e ∙ ap barred (sym e))
    one_honest (w ∷ r) = go (mem ks (kind w)) refl
      where
        go : (t : Bool) → mem ks (kind w) ≡ t → Honest (one ks value note) (say_one spell note) (λ _ _. Unit {0}) (w ∷ r) (cond t (noted (note w) (value w) w r) (barred (w ∷ r)))
        go true m = one_word w r (note w) m refl
        go false m = (any, [], (say_one spell note) any, refl, tt, refl, λ u e. ap (one ks value note) e.1 ∙ cond-false (mem ks (kind w)) _ _ m ∙ ap barred (sym e.1))

    pub one_good : Good (one ks value note) (say_one spell note) (λ _ _. Unit {0})
    one_good = record {
      some = any;
      keeps = λ x r u h s. tt;
      reads = λ x r s. cond-true (mem ks (kind (spell x))) _ _ (kinds x) ∙ ap (λ v. noted (note (spell x)) v (spell x) (front_by (note (spell x)) r r)) (back x) ∙ one_noted (note (spell x)) x (spell x) r;
      honest = one_honest;
    }

-- nothing
pub nothing_good : Good nothing (λ _. []) (λ _ _. Unit {0})
nothing_good = record { some = tt; keeps = λ x r u h s. tt; reads = λ x r s. refl; honest = λ ws. (tt, refl, tt) }

-- one of two parts, by the word ahead
abbrev pub say_fork : {X Y : Type 0} → (X → Said) → (Y → Said) → X ⊎ Y → Said
say_fork A B (inl x) = A x
say_fork A B (inr y) = B y

abbrev pub stops_fork : {X Y : Type 0} → List ℕ → (Y → Said) → (X → List W → Type 0) → (Y → List W → Type 0) → X ⊎ Y → List W → Type 0
stops_fork ks B SA SB (inl x) r = SA x r
stops_fork ks B SA SB (inr y) r = SB y r × (ahead ks (front (B y) r) ≡ false)

module _ {X Y : Type 0} (ks : List ℕ) {a : Reader X} {b : Reader Y} {A : X → Said} {B : Y → Said} {SA : X → List W → Type 0} {SB : Y → List W → Type 0} where
  module _ (opens : (x : X) → Begins ks (A x)) (ga : Good a A SA) (gb : Good b B SB) where
    fork_keeps : (z : X ⊎ Y) (r u : List W) → Agree r u → (stops_fork ks B SA SB) z r → (stops_fork ks B SA SB) z u
    fork_keeps (inl x) r u h s = ga.keeps x r u h s
    fork_keeps (inr y) r u h s = (gb.keeps y r u h s.0, agree_ahead ks (front (B y) r) (front (B y) u) (agree_front (B y) r u h) ∙ s.1)

    fork_reads : (z : X ⊎ Y) (r : List W) → (stops_fork ks B SA SB) z r → fork ks a b (front (say_fork A B z) r) ≡ verdict (say_fork A B z) r (ok z r)
    fork_reads (inl x) r s = cond-true (ahead ks (front (A x) r)) _ _ (begins_ahead ks (A x) r (opens x)) ∙ ap (mapped inl) (ga.reads x r s) ∙ mapped_verdict inl (A x) r (ok x r)
    fork_reads (inr y) r s = cond-false (ahead ks (front (B y) r)) _ _ s.1 ∙ ap (mapped inr) (gb.reads y r s.0) ∙ mapped_verdict inr (B y) r (ok y r)

    fork_left : (ws : List W) (o : Out X) → ahead ks ws ≡ true → Honest a A SA ws o → Honest (fork ks a b) (say_fork A B) (stops_fork ks B SA SB) ws (mapped inl o)
    fork_left ws (ok x r) m h = h
    fork_left ws (flawed n w r) m (x, f, e) = (inl x, f, e)
    fork_left ws (barred r) m (x, p, q, d, f, e, loc) =
        (inl x, p, q, d, f, e, λ u k. cond-true (ahead ks (front p u)) _ _ (agree_ahead ks (front p r) (front p u) (agree_front p r u k) ∙ ap (ahead ks) (sym e) ∙ m) ∙ ap (mapped inl) (loc u k))

    fork_right : (ws : List W) (o : Out Y) → ahead ks ws ≡ false → Honest b B SB ws o → Honest (fork ks a b) (say_fork A B) (stops_fork ks B SA SB) ws (mapped inr o)
    fork_right ws (ok y r) m (f, e, s) = (f, e, (s, ap (ahead ks) (sym e) ∙ m))
    fork_right ws (flawed n w r) m (y, f, e) = (inr y, f, e)
    fork_right ws (barred r) m (y, p, q, d, f, e, loc) =
        (inr y, p, q, d, f, e, λ u k. cond-false (ahead ks (front p u)) _ _ (agree_ahead ks (front p r) (front p u) (agree_front p r u k) ∙ ap (ahead ks) (sym e) ∙ m) ∙ ap (mapped inr) (loc u k))

    fork_honest : (ws : List W) → Honest (fork ks a b) (say_fork A B) (stops_fork ks B SA SB) ws (fork ks a b ws)
    fork_honest ws = go (ahead ks ws) refl
      where
        go : (t : Bool) → ahead ks ws ≡ t → Honest (fork ks a b) (say_fork A B) (stops_fork ks B SA SB) ws (cond t (mapped inl (a ws)) (mapped inr (b ws)))
        go true m = fork_left ws (a ws) m (ga.honest ws)
        go false m = fork_right ws (b ws) m (gb.honest ws)

    pub fork_good : Good (fork ks a b) (say_fork A B) (stops_fork ks B SA SB)
    fork_good = record { some = inr gb.some; keeps = fork_keeps; reads = fork_reads; honest = fork_honest }

-- the end, or a part
abbrev pub say_ended : {X : Type 0} → (X → Said) → X ⊎ Unit {0} → Said
say_ended A (inl x) = A x
say_ended A (inr y) = []

abbrev pub stops_ended : {X : Type 0} → (X → List W → Type 0) → X ⊎ Unit {0} → List W → Type 0
stops_ended SA (inl x) r = SA x r
stops_ended SA (inr y) r = r ≡ []

abbrev Filled : List W → Type 0
Filled [] = ⊥
Filled (x ∷ s) = Unit {0}

agree_end : (r u : List W) → Agree r u → r ≡ [] → u ≡ []
agree_end [] u h e = h
agree_end (w ∷ r) u h e = absurd (subst Filled e tt)

module _ {X : Type 0} {a : Reader X} {A : X → Said} {SA : X → List W → Type 0} where
  module _ (ks : List ℕ) (opens : (x : X) → Begins ks (A x)) (ga : Good a A SA) where
    ended_keeps : (z : X ⊎ Unit {0}) (r u : List W) → Agree r u → (stops_ended SA) z r → (stops_ended SA) z u
    ended_keeps (inl x) r u h s = ga.keeps x r u h s
    ended_keeps (inr y) r u h s = agree_end r u h s

    ended_some : (s : Said) (r : List W) → Begins ks s → ended a (front s r) ≡ mapped inl (a (front s r))
    ended_some [] r h = absurd h
    ended_some (x ∷ s) r h = refl

    ended_reads : (z : X ⊎ Unit {0}) (r : List W) → (stops_ended SA) z r → ended a (front ((say_ended A) z) r) ≡ verdict ((say_ended A) z) r (ok z r)
    ended_reads (inl x) r s = ended_some (A x) r (opens x) ∙ ap (mapped inl) (ga.reads x r s) ∙ mapped_verdict inl (A x) r (ok x r)
    ended_reads (inr tt) r s = ap (ended a) s ∙ ap (ok (inr tt)) (sym s)

    ended_part : (w : W) (t : List W) (o : Out X) → Honest a A SA (w ∷ t) o → Honest (ended a) (say_ended A) (stops_ended SA) (w ∷ t) (mapped inl o)
    ended_part w t (ok x r) h = h
    ended_part w t (flawed n v r) (x, f, e) = (inl x, f, e)
    ended_part w t (barred r) (x, p, q, d, f, e, loc) =
        (inl x, p, q, d, f, e, λ u k. go (front p r) (front p u) e (agree_front p r u k) ∙ ap (mapped inl) (loc u k))
      where
        go : (r u : List W) → w ∷ t ≡ r → Agree r u → ended a u ≡ mapped inl (a u)
        go r u e k = let v = subst (λ z. Agree z u) (sym e) k in ap (ended a) v.1 ∙ ap (λ z. mapped inl (a z)) (sym v.1)

    ended_honest : (ws : List W) → Honest (ended a) (say_ended A) (stops_ended SA) ws (ended a ws)
    ended_honest [] = (tt, refl, refl)
    ended_honest (w ∷ t) = ended_part w t (a (w ∷ t)) (ga.honest (w ∷ t))

    pub ended_good : Good (ended a) (say_ended A) (stops_ended SA)
    ended_good = record { some = inr tt; keeps = ended_keeps; reads = ended_reads; honest = ended_honest }

-- the end of the words
only_end_honest : (ws : List W) → Honest only_end (λ _. []) (λ _ r. r ≡ []) ws (only_end ws)
only_end_honest [] = (tt, refl, refl)
only_end_honest (w ∷ r) = (tt, [], [], refl, tt, refl, λ u e. ap only_end e.1 ∙ ap barred (sym e.1))

pub only_end_good : Good only_end (λ _. []) (λ _ r. r ≡ [])
only_end_good = record { some = tt; keeps = λ x r u h s. agree_end r u h s; reads = λ x r s. ap only_end s ∙ ap (ok tt) (sym s); honest = only_end_honest }

-- one part too many
module _ {X : Type 0} (ks : List ℕ) (n : ℕ) (A : X → Said) where
  abbrev pub say_over : X → Said
  say_over x = spoiled n (A x)

  module _ (any : X) (opens : (x : X) → Begins ks (A x)) (starts : (w : W) → mem ks (kind w) ≡ true → (x : X) × (m : Note) × (s : Said) × (A x ≡ (w, m) ∷ s)) where
    over_reads : (x : X) (s : Said) (r : List W) → Begins ks s → over ks n (front (spoiled n s) r) ≡ verdict (spoiled n s) r (ok x r)
    over_reads x [] r h = absurd h
    over_reads x (y ∷ s) r h = cond-true (mem ks (kind y.0)) _ _ h

    over_honest : (ws : List W) → Honest {X = X} (over ks n) say_over (λ _ _. Unit {0}) ws (over ks n ws)
    over_honest [] = (any, [], say_over any, refl, tt, refl, λ u e. ap (over ks n) e ∙ ap barred (sym e))
    over_honest (w ∷ r) = go (mem ks (kind w)) refl
      where
        go : (t : Bool) → mem ks (kind w) ≡ t → Honest {X = X} (over ks n) say_over (λ _ _. Unit {0}) (w ∷ r) (cond t (flawed n w r) (barred (w ∷ r)))
        go true m = let b = starts w m in (b.0, subst (λ s. Flawed n w (spoiled n s)) (sym b.3) (refl, refl), ap (λ s. front (spoiled n s) r) (sym b.3))
        go false m = (any, [], say_over any, refl, tt, refl, λ u e. ap (over ks n) e.1 ∙ cond-false (mem ks (kind w)) _ _ m ∙ ap barred (sym e.1))

    pub over_good : Good {X = X} (over ks n) say_over (λ _ _. Unit {0})
    over_good = record { some = any; keeps = λ x r u h s. tt; reads = λ x r s. over_reads x (A x) r (opens x); honest = over_honest }

-- the same part in another form
module _ {X Y : Type 0} (f : X → Y) (g : Y → X) (B : Y → Said) {a : Reader X} {A : X → Said} {SA : X → List W → Type 0} (fg : (y : Y) → f (g y) ≡ y) (gf : (x : X) → g (f x) ≡ x) (same : (x : X) → B (f x) ≡ A x) (ga : Good a A SA) where
  same_back : (y : Y) → B y ≡ A (g y)
  same_back y = ap B (sym (fg y)) ∙ same (g y)

  via_honest : (ws : List W) (o : Out X) → Honest a A SA ws o → Honest (via f a) B (λ y r. SA (g y) r) ws (mapped f o)
  via_honest ws (ok x r) (h, e, s) = (subst Fine (sym (same x)) h, e ∙ ap (λ z. front z r) (sym (same x)), subst (λ z. SA z r) (sym (gf x)) s)
  via_honest ws (flawed n w r) (x, h, e) = (f x, subst (Flawed n w) (sym (same x)) h, e ∙ ap (λ z. front z r) (sym (same x)))
  via_honest ws (barred r) (x, p, q, d, h, e, loc) = (f x, p, q, same x ∙ d, h, e, λ u k. ap (mapped f) (loc u k))

  pub via_good : Good (via f a) B (λ y r. SA (g y) r)
  via_good = record {
    some = f ga.some;
    keeps = λ y r u h s. ga.keeps (g y) r u h s;
    reads = λ y r s. ap (λ z. mapped f (a (front z r))) (same_back y) ∙ ap (mapped f) (ga.reads (g y) r s) ∙ mapped_verdict f (A (g y)) r (ok (g y) r) ∙ ap (λ z. verdict (A (g y)) r (ok z r)) (fg y) ∙ ap (λ z. verdict z r (ok y r)) (sym (same_back y));
    honest = λ ws. via_honest ws (a ws) (ga.honest ws);
  }
