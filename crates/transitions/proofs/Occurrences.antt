-- An occurrence is a head of a rule of the program. Assumes nothing.
use Rattle.std.proofs.Common.{◌≡◌, ℕ, zero, suc, pred, ◌+◌, ◌<◌, Bool, true, false, eqb, ◌⊎◌, List, [], ◌∷◌, ◌++◌, length, Some, sym, ap, subst, inl, inr, arith}
use Rattle.steps.specs.Program.{Pattern, Rule, Program, rule_at, Occurrence, occurrences_in, occurrences_from, occurrences}
use Rattle.steps.specs.Step.{occurrence_at}
use Rattle.steps.specs.Relations.{In, here, there, InHeads}
use Rattle.transitions.specs.Lawful.{SixVariables}
use Rattle.transitions.proofs.Basics.{some_same, no_some, in_either, in_one}
use Rattle.transitions.proofs.Matches.{HeadsBelow}

at_in : (os : List Occurrence) (j : ℕ) (o : Occurrence) → occurrence_at os j ≡ Some o → In o os
at_in [] j o e = no_some e
at_in (x ∷ os) j o e = at (λ q. at_in os (pred j) o q) (eqb j 1) e
  where
    at : (occurrence_at os (pred j) ≡ Some o → In o os) → (b : Bool) → elim b [ true ↦ Some x | false ↦ occurrence_at os (pred j) ] ≡ Some o → In o (x ∷ os)
    at f true e = subst (λ (z : Occurrence). In z (x ∷ os)) (some_same e) here
    at f false e = there (f e)

-- a head of rule r, from place h on
abbrev OfRule : ℕ → ℕ → List Pattern → Occurrence → Type 0
OfRule r h qs o = (o.rule ≡ r) × (o.head < h + length qs)

in_rule : (p r h : ℕ) (qs : List Pattern) (o : Occurrence) → In o (occurrences_in p r h qs) → OfRule r h qs o
in_rule p r h [] o m = elim m [ ]
in_rule p r h (q ∷ qs) o m = at (λ n. in_rule p r (suc h) qs o n) (eqb p q.predicate) m
  where
    later : OfRule r (suc h) qs o → OfRule r h (q ∷ qs) o
    later w = (w.0, let l = w.1 in omega arith)

    by : (In o (occurrences_in p r (suc h) qs) → OfRule r (suc h) qs o) → In o (occurrences_in p r (suc h) qs) ⊎ In o (record { rule = r; head = h } ∷ []) → OfRule r h (q ∷ qs) o
    by f (inl a) = later (f a)
    by f (inr b) = let e = in_one b in (ap (λ (z : Occurrence). z.rule) e, let k : o.head ≡ h = ap (λ (z : Occurrence). z.head) e in omega arith)

    at : (In o (occurrences_in p r (suc h) qs) → OfRule r (suc h) qs o) → (b : Bool) → In o (elim b [ true ↦ occurrences_in p r (suc h) qs ++ (record { rule = r; head = h } ∷ []) | false ↦ occurrences_in p r (suc h) qs ]) → OfRule r h (q ∷ qs) o
    at f true m = by f (in_either (occurrences_in p r (suc h) qs) m)
    at f false m = later (f m)

-- a head of one of the rules, which are numbered from r on
abbrev OfRules : ℕ → List Rule → Occurrence → Type 0
OfRules r xs o = (k : ℕ) × (o.rule ≡ r + k) × (o.head < length (rule_at xs k).heads)

in_rules : (p r : ℕ) (xs : List Rule) (o : Occurrence) → In o (occurrences_from p r xs) → OfRules r xs o
in_rules p r [] o m = elim m [ ]
in_rules p r (x ∷ xs) o m = by (λ n. in_rules p (suc r) xs o n) (in_either (occurrences_in p r 0 x.heads) m)
  where
    by : (In o (occurrences_from p (suc r) xs) → OfRules (suc r) xs o) → In o (occurrences_in p r 0 x.heads) ⊎ In o (occurrences_from p (suc r) xs) → OfRules r (x ∷ xs) o
    by f (inl a) = let w = in_rule p r 0 x.heads o a in let e = w.0 in let l = w.1 in (0, omega arith, omega arith)
    by f (inr b) = let w = f b in let e = w.1 in (suc w.0, omega arith, w.2)

pub head_within : (P : Program) (p j r h : ℕ) → occurrence_at (occurrences P p) j ≡ Some (record { rule = r; head = h }) → h < length (rule_at P r).heads
head_within P p j r h e =
    let w = in_rules p 0 P (record { rule = r; head = h }) (at_in (occurrences P p) j (record { rule = r; head = h }) e) in
    let q : r ≡ w.0 = let z = w.1 in omega arith in
    subst (λ (k : ℕ). h < length (rule_at P k).heads) (sym q) w.2

rule_among : (P : Program) (r i : ℕ) → InHeads i (rule_at P r).heads → In (rule_at P r) P
rule_among [] r i h = elim h.1 [ ]
rule_among (x ∷ P) zero i h = here
rule_among (x ∷ P) (suc r) i h = there (rule_among P r i h)

pub six_below : (P : Program) → SixVariables P → (r : ℕ) → HeadsBelow 6 (rule_at P r).heads
six_below P six r i h = six (rule_at P r) i (rule_among P r i h) h
