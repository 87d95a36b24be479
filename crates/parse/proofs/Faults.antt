-- A part's fault is the whole's. Assumes nothing.
use Rattle.std.proofs.Common.{◌≡◌, ℕ, List, [], ◌∷◌, drop, IsErrAnd, Bor, Result, Ok, Err, sym, subst}
use Rattle.std.proofs.lemmas.Result.{err_from_is_err_and}
use Rattle.syntax.specs.Syntax.{W, Out, ok, barred, flawed}
use Rattle.parse.specs.declared.flaw.Flaw.{Flaw}
use Rattle.parse.specs.declared.flaw.Flaw.TheVariants.{Barred, TooMany, Unbound, Reused, InGoal, Memory}
use Rattle.parse.specs.Flaws.{flawed_at, FoundFlaw, Faulted}
use Rattle.parse.specs.declared.cursor.Cursor.{Cursor}
use Rattle.parse.specs.declared.token.Token.{Token}
use Rattle.parse.specs.Tokens.{words}
use Rattle.parse.specs.Cursors.{whole, rest, Tells}

-- a reading that is barred and faulted wherever a part of it is
found_led : {X Y : Type 0} (ws : List W) (f : Flaw) (o : Out X) (u : Out Y) → ((r : List W) → o ≡ barred r → u ≡ barred r) → ((n : ℕ) (l : List W) → o ≡ flawed_at n l → u ≡ flawed_at n l) → FoundFlaw ws f o → FoundFlaw ws f u
found_led ws (Barred i) o u b n e = b (drop i ws) e
found_led ws (TooMany i) o u b n e = n 5 (drop i ws) e
found_led ws (Unbound i) o u b n e = n 6 (drop i ws) e
found_led ws (Reused i) o u b n e = n 7 (drop i ws) e
found_led ws (InGoal i) o u b n e = n 8 (drop i ws) e
found_led ws Memory o u b n e = tt

flaw_led : {X Y : Type 0} (o : Out X) (u : Out Y) → ((r : List W) → o ≡ barred r → u ≡ barred r) → ((n : ℕ) (w : W) (r : List W) → o ≡ flawed n w r → u ≡ flawed n w r) → (n : ℕ) (l : List W) → o ≡ flawed_at n l → u ≡ flawed_at n l
flaw_led o u b f n [] e = b [] e
flaw_led o u b f n (w ∷ r) e = f n w r e

pub led : {X Y : Type 0} {ws : List W} {f : Flaw} {o : Out X} {u : Out Y} → Faulted ws f o → ((r : List W) → o ≡ barred r → u ≡ barred r) → ((n : ℕ) (w : W) (r : List W) → o ≡ flawed n w r → u ≡ flawed n w r) → Faulted ws f u
led {ws = ws} {f = f} {o = o} {u = u} e b g = record { found = found_led ws f o u b (flaw_led o u b g) e.found }

pub faulted_same : {X : Type 0} {ws : List W} {f : Flaw} {o u : Out X} → o ≡ u → Faulted ws f u → Faulted ws f o
faulted_same {ws = ws} {f = f} e h = subst (λ v. Faulted ws f v) (sym e) h

-- the cursor still goes over the words that it began with
pub faulted_here : {X : Type 0} (d : Cursor) (ts : Bor (List Token)) {f : Flaw} {o : Out X} → d.tokens ≡ ts → Faulted (whole d) f o → Faulted (words ts.now) f o
faulted_here d ts {f = f} {o = o} e h = subst (λ b. Faulted (words b.now) f o) e h

-- what a reader tells of one part tells of another
pub retold : {T X Y : Type 0} {Is : T → X → Type 0} {Was : T → Y → Type 0} (d : Cursor) {o : Out X} {u : Out Y} (r : Result T Flaw) → ((x : T) (y : X) → Is x y → o ≡ ok y (rest d) → Tells Was (Ok x) d u) → ((f : Flaw) → Faulted (whole d) f o → Faulted (whole d) f u) → Tells Is r d o → Tells Was r d u
retold d (Ok x) f g (y, i, e) = f x y i e
retold d (Err e) f g h = g e h

-- the exit of a `?`
pub exit : {T X : Type 0} (Is : T → X → Type 0) (d : Cursor) {o : Out X} {f : Flaw} (r : Result T Flaw) → IsErrAnd r (λ y. y ≡ f) → Faulted (whole d) f o → Tells Is r d o
exit Is d {o = o} r e h = let p = err_from_is_err_and r e in subst (λ x. Tells Is x d o) (sym p.1) (subst (λ y. Faulted (whole d) y o) (sym p.2) h)
