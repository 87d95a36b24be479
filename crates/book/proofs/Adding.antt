-- Tables that grow by what a row of parts mentions. Assumes nothing.
use Rattle.std.proofs.Common.{◌≡◌, ℕ, ◌+◌, ◌<◌, ◌≤◌, List, [], ◌∷◌, ◌++◌, map, length, get_or, take, sym, refl, ap, ◌∙◌, append_assoc}
use Rattle.std.proofs.lemmas.List.{map_push, take_more, take_all}
use Rattle.parse.specs.declared.few.Few.{Few}
use Rattle.parse.specs.declared.few.Few.TheVariants.{One, Two, Three}
use Rattle.parse.specs.declared.tree.Mention.{Mention as Code}
use Rattle.parse.specs.Model.{Mention, mention}
use Rattle.parse.specs.Flat.{few_mentions}
use Rattle.book.specs.Mentions.{gathered}

nil_right : {A : Type 0} (l : List A) → l ++ [] ≡ l
nil_right [] = refl
nil_right (x ∷ l) = ap (λ t. x ∷ t) (nil_right l)

module _ (out : List Code) (few : Few Code) where
  pub heads_one : (a : Code) (new : List Code) → few ≡ One a → new ≡ out ++ a ∷ [] → map mention new ≡ map mention out ++ few_mentions few
  heads_one a new s e = ap (map mention) e ∙ map_push mention out a ∙ ap (λ f. map mention out ++ few_mentions f) (sym s)

  pub heads_two : (a b : Code) (m n : List Code) → few ≡ Two a b → m ≡ out ++ a ∷ [] → n ≡ m ++ b ∷ [] → map mention n ≡ map mention out ++ few_mentions few
  heads_two a b m n s e f =
      ap (map mention) f ∙ map_push mention m b ∙ ap (λ l. l ++ mention b ∷ []) (ap (map mention) e ∙ map_push mention out a) ∙ append_assoc (map mention out) (mention a ∷ []) (mention b ∷ []) ∙ ap (λ f. map mention out ++ few_mentions f) (sym s)

  pub heads_three : (a b c : Code) (m n o : List Code) → few ≡ Three a b c → m ≡ out ++ a ∷ [] → n ≡ m ++ b ∷ [] → o ≡ n ++ c ∷ [] → map mention o ≡ map mention out ++ few_mentions few
  heads_three a b c m n o s e f g =
      ap (map mention) g ∙ map_push mention n c ∙ ap (λ l. l ++ mention c ∷ []) (ap (map mention) f ∙ map_push mention m b ∙ ap (λ l. l ++ mention b ∷ []) (ap (map mention) e ∙ map_push mention out a)) ∙ append_assoc (map mention out ++ mention a ∷ []) (mention b ∷ []) (mention c ∷ []) ∙ append_assoc (map mention out) (mention a ∷ []) (mention b ∷ mention c ∷ []) ∙ ap (λ f. map mention out ++ few_mentions f) (sym s)

gathered_push : {X : Type 0} (f : X → List Mention) (xs : List X) (x : X) → gathered f (xs ++ x ∷ []) ≡ gathered f xs ++ f x
gathered_push f [] x = nil_right (f x)
gathered_push f (y ∷ xs) x = ap (λ l. f y ++ l) (gathered_push f xs x) ∙ sym (append_assoc (f y) (gathered f xs) (f x))

-- a row of parts, one at a time
module _ {X T : Type 0} (f : X → List Mention) (view : T → X) (xs : List T) (old : List Mention) where
  abbrev pub Gathering : ℕ → List Mention → Type 0
  Gathering i new = new ≡ old ++ gathered f (map view (take i xs))

  pub gathering_none : (new : List Mention) → new ≡ old → Gathering 0 new
  gathering_none new e = e ∙ sym (nil_right old)

  pub gathering_more : (i : ℕ) (x : T) (now new : List Mention) → i < length xs → x ≡ get_or xs i x → Gathering i now → new ≡ now ++ f (view x) → Gathering (i + 1) new
  gathering_more i x now new h s so e =
      let q : map view (take (i + 1) xs) ≡ map view (take i xs) ++ view x ∷ [] = ap (map view) (take_more xs i x h) ∙ map_push view (take i xs) (get_or xs i x) ∙ ap (λ y. map view (take i xs) ++ view y ∷ []) (sym s) in
      e ∙ ap (λ l. l ++ f (view x)) so ∙ append_assoc old (gathered f (map view (take i xs))) (f (view x)) ∙ ap (λ l. old ++ l) (sym (ap (gathered f) q ∙ gathered_push f (map view (take i xs)) (view x)))

  pub gathering_all : (i : ℕ) (new : List Mention) → length xs ≤ i → Gathering i new → new ≡ old ++ gathered f (map view xs)
  gathering_all i new h so = so ∙ ap (λ l. old ++ gathered f (map view l)) (take_all i xs h)

pub nothing_more : {A : Type 0} (now new : List A) → new ≡ now → new ≡ now ++ []
nothing_more now new e = e ∙ sym (nil_right now)

-- three parts, one behind the other
pub three_parts : {A : Type 0} (old a b c x y z : List A) → x ≡ old ++ a → y ≡ x ++ b → z ≡ y ++ c → z ≡ old ++ (a ++ (b ++ c))
three_parts old a b c x y z e f g = g ∙ ap (λ l. l ++ c) (f ∙ ap (λ l. l ++ b) e) ∙ append_assoc (old ++ a) b c ∙ append_assoc old a (b ++ c)
