-- Predicates and their numbers. Assumes nothing.
use Rattle.std.specs.Prelude.{◌≡◌, ℕ, suc, ◌<◌, Bool, true, false, cond, ◌&&◌, ◌||◌, List, [], ◌∷◌, ◌++◌, map, length, Some, None, Ok, Err, vec_items, Option, Result, ◌==◌, nat_lt}
use Rattle.words.specs.Names.{name_bytes}
use Rattle.syntax.specs.Grammar.{same_name}
use Rattle.parse.specs.Model.{Mention}
use Rattle.book.specs.declared.predicate.Predicate.{Predicate as Code}
use Rattle.book.specs.declared.predicate.Predicates.{Predicates}
use Rattle.book.specs.declared.faults.BookFault.{BookFault}
use Rattle.book.specs.declared.faults.BookFault.TheVariants.{Grammar, Unbound, Reused, InGoal, Unknown, Memory}
use Rattle.book.specs.declared.faults.GrammarFault.TheVariants.{Letter, Barred, TooMany}

-- a predicate is a name with its count of arguments
abbrev pub Predicate : Type 0
Predicate = List ℕ × ℕ

abbrev pub predicates_agree : Predicate → Predicate → Bool
predicates_agree a b = a.1 == b.1 && same_name a.0 b.0

abbrev pub has : List Predicate → Predicate → Bool
has [] q = false
has (p ∷ ps) q = predicates_agree p q || has ps q

-- how many stand before the first that is q: its number
abbrev pub number_of : List Predicate → Predicate → ℕ
number_of [] q = 0
number_of (p ∷ ps) q = cond (predicates_agree p q) 0 (suc (number_of ps q))

abbrev pub predicate_of : Mention → Predicate
predicate_of f = (f.name, length f.arguments)

-- the predicates so far; or the place of the name of a 33rd
pub data Listing : Type 0 where
  these : List Predicate → Listing
  excess : ℕ → Listing

-- a fact's predicate joins those before it if it is new; at most 32 may stand
abbrev pub noted : List Predicate → Mention → Listing
noted ps f = cond (has ps (predicate_of f)) (these ps) (cond (nat_lt (length ps) 32) (these (ps ++ predicate_of f ∷ [])) (excess f.place))

abbrev pub on_these : Listing → (List Predicate → Listing) → Listing
on_these (these qs) k = k qs
on_these (excess p) k = excess p

-- the predicates of facts in the order of the text
abbrev pub listing : List Predicate → List Mention → Listing
listing ps [] = these ps
listing ps (f ∷ fs) = on_these (noted ps f) (λ qs. listing qs fs)

abbrev pub coded : Code → Predicate
coded p = (name_bytes p.name, p.arity)

abbrev pub predicates : Predicates → List Predicate
predicates ps = map coded (vec_items ps.list)

-- the number of a predicate, or none where it is not there
abbrev pub Numbered : List Predicate → Predicate → Option ℕ → Type 0
Numbered ps q None = has ps q ≡ false
Numbered ps q (Some i) = (i < length ps) × (has ps q ≡ true) × (number_of ps q ≡ i)

-- a fault of the code that is an excess at a place; want of memory says nothing
abbrev pub Excess : BookFault → Listing → Type 0
Excess (Grammar (Letter e)) l = ⊥
Excess (Grammar (Barred p)) l = ⊥
Excess (Grammar (TooMany p)) l = l ≡ excess p
Excess (Unbound p) l = ⊥
Excess (Reused p) l = ⊥
Excess (InGoal p) l = ⊥
Excess (Unknown p) l = ⊥
Excess Memory l = Unit {0}

abbrev pub Noted : List Predicate → Mention → Result (Unit {0}) BookFault → List Predicate → Type 0
Noted ps f (Ok u) qs = noted ps f ≡ these qs
Noted ps f (Err e) qs = Excess e (noted ps f)

abbrev pub Listed : Result Predicates BookFault → Listing → Type 0
Listed (Ok ps) l = l ≡ these (predicates ps)
Listed (Err e) l = Excess e l

-- the first fact whose predicate is not among these
pub data Unknowns : Type 0 where
  all_known : Unknowns
  unknown_at : ℕ → Unknowns

abbrev pub unknowns : List Predicate → List Mention → Unknowns
unknowns ps [] = all_known
unknowns ps (f ∷ fs) = cond (has ps (predicate_of f)) (unknowns ps fs) (unknown_at f.place)

-- the place of the first unknown, or none
abbrev pub UnknownTold : Option ℕ → Unknowns → Type 0
UnknownTold None u = u ≡ all_known
UnknownTold (Some p) u = u ≡ unknown_at p
