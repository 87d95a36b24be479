-- Transitions keep to the cells that there are. Assumes nothing.
use Rattle.std.proofs.Common.{◌≡◌, ℕ, pred, ◌+◌, ◌<◌, ◌≤◌, ◌⊎◌, List, [], ◌∷◌, ◌++◌, length, get_or, drop, Some, None, Ok, Err, Option, Result, sym, refl, ◌∙◌, subst, inl, inr, arith, length-set}
use lib.ListN.{length-replicate}
use Rattle.parse.specs.Model.{Term}
use Rattle.parse.specs.Model as term
use Rattle.tree.specs.Walks.{Path, Standing, branch, Walks, onward}
use Rattle.steps.specs.Program.{Program, Rule, Alternative, Item, rule_at, alternative_at}
use Rattle.steps.specs.State.{Kind, Value, cell, Stored, Bindings, Entry, State, Cause, End}
use Rattle.steps.specs.Matching.{unbound, value_or_0}
use Rattle.steps.specs.Step.{Outcome, body_entry, entries_of}
use Rattle.steps.specs.Walk.{goal_entries, start_of, machine}
use Rattle.steps.specs.Relations.{In, here, there, Every, every_none, every_more, Each, each_none, each_more, Fits, has_value, Means, as_number, as_cell, as_variable, as_sum, Combines, BodyValue, cell_value, number_value, BodyEntry, tells}
use Rattle.steps.specs.Relations as relation
use Rattle.steps.specs.Transitions.{Wakes, Transition}
use Rattle.steps.specs.Transitions as move
use Rattle.transitions.specs.Lawful.{Lawful, SixVariables}
use Rattle.transitions.specs.Cells.{KnownValue, KnownTerm, KnownItem, KnownProgram, KnownBindings, KnownEntry, Known, Still, rests, steps_on, CellsKnown}
use Rattle.transitions.specs.Derivations.{Derives, initial, transition, alternated}
use Rattle.transitions.specs.Measure.{TopKnown, Quietly, moves_on}
use Rattle.transitions.specs.Measure as quietly
use Rattle.transitions.proofs.Basics.{no_some, some_same, every_in}
use Rattle.transitions.proofs.Bodies.{give_entries}
use Rattle.transitions.proofs.Combinations.{none_bound}
use Rattle.transitions.proofs.Derivations.{walks_by_transitions}
use Rattle.transitions.proofs.Measure.{in_or, measure}
use Rattle.transitions.proofs.Soundness.{every_push, every_without, walk_sound}

every_append : {X : Type 0} {Q : X → Type 0} {xs ys : List X} → Every Q xs → Every Q ys → Every Q (xs ++ ys)
every_append every_none qs = qs
every_append (every_more p ps) qs = every_more p (every_append ps qs)

below_top : {X : Type 0} {Q : X → Type 0} {x : X} {xs : List X} → Every Q (x ∷ xs) → Every Q xs
below_top (every_more q qs) = qs

-- the values of variables are arguments of facts
partner : {X Y : Type 0} {R : X → Y → Type 0} {x : X} {xs : List X} {ys : List Y} → Each R xs ys → In x xs → (y : Y) × In y ys × R x y
partner each_none m = elim m [ ]
partner (each_more r rs) here = (_, here, r)
partner (each_more r rs) (there m) = let w = partner rs m in (w.0, there w.1, w.2)

of_variable : {θ : Bindings} {i : ℕ} {v : Value} → Fits θ (term.variable i) v → get_or θ i None ≡ Some v
of_variable (has_value i v e) = e

combined_known : {K : Kind} {s : State} {r : ℕ} {x : Rule} {place act : ℕ} {θ : Bindings} {fs : List Stored} → Combines K s r x place act θ fs → Every (λ f. Every (KnownValue 32) f.fact.arguments) s.store → KnownBindings 32 θ
combined_known c k i v e =
    let h = c.binds.only i v e in
    let a = partner c.matches h.1 in
    let b = partner a.2.arguments h.2 in
    let q : Some b.0 ≡ Some v = sym (of_variable b.2) ∙ e in
    subst (KnownValue 32) (some_same q) (every_in (every_in k (every_in c.present a.1)) b.1)

body_known : (r : ℕ) (as' : List Alternative) (θ : Bindings) → KnownBindings 32 θ → KnownEntry 32 (body_entry r as' θ)
body_known r [] θ k = k
body_known r (a ∷ []) θ k = k
body_known r (a ∷ b ∷ as') θ k = k

-- the entries of items
means_known : (θ : Bindings) → KnownBindings 32 θ → (t : Term) (v : Value) → KnownTerm 32 t → Means θ t v → KnownValue 32 v
means_known θ k t v w (as_number n) = tt
means_known θ k t v w (as_cell c) = w
means_known θ k t v w (as_variable i u e) = at (get_or θ i None) refl e
  where
    at : (o : Option Value) → get_or θ i None ≡ o → value_or_0 o ≡ u → KnownValue 32 u
    at None p e = subst (KnownValue 32) e tt
    at (Some x) p e = subst (KnownValue 32) e (k i x p)
means_known θ k t v w (as_sum i m n e) = tt

value_known : (θ : Bindings) → KnownBindings 32 θ → (t : Term) (v : Value) → KnownTerm 32 t → BodyValue θ t v → KnownValue 32 v
value_known θ k t v w (number_value n m l) = tt
value_known θ k t v w (cell_value c m) = means_known θ k t (cell c) w m

entry_known : (θ : Bindings) → KnownBindings 32 θ → (i : Item) (e : Entry) → KnownItem 32 i → BodyEntry θ i e → KnownEntry 32 e
entry_known θ k i e w (relation.adds p vs a) = all w a
  where
    all : {ts : List Term} {us : List Value} → Every (KnownTerm 32) ts → Each (BodyValue θ) ts us → Every (KnownValue 32) us
    all every_none each_none = every_none
    all (every_more q qs) (each_more r rs) = every_more (value_known θ k _ _ q r) (all qs rs)
entry_known θ k i e w (tells c v n l r) = value_known θ k c.left v w l
entry_known θ k i e w relation.fails = tt

entries_known : (θ : Bindings) → KnownBindings 32 θ → {is : List Item} {es : List Entry} → ((i : Item) → In i is → KnownItem 32 i) → Each (BodyEntry θ) is es → Every (KnownEntry 32) es
entries_known θ k f each_none = every_none
entries_known θ k f (each_more {x = i} {y = e} r rs) = every_more (entry_known θ k i e (f i here) r) (entries_known θ k (λ j m. f j (there m)) rs)

items_known : (P : Program) → KnownProgram 32 P → (r i : ℕ) (it : Item) → In it (alternative_at (rule_at P r) i).items → KnownItem 32 it
items_known P k r i it m = at (in_or P r (record { heads = []; kept = 0; guard = []; body = [] })) (in_or (rule_at P r).body (pred i) (record { weight = 0; items = [] }))
  where
    none : In it [] → KnownItem 32 it
    none m = elim m [ ]

    at : In (rule_at P r) P ⊎ (rule_at P r ≡ record { heads = []; kept = 0; guard = []; body = [] }) → In (alternative_at (rule_at P r) i) (rule_at P r).body ⊎ (alternative_at (rule_at P r) i ≡ record { weight = 0; items = [] }) → KnownItem 32 it
    at (inl a) (inl b) = k (rule_at P r) (alternative_at (rule_at P r) i) it a b m
    at (inl a) (inr b) = none (subst (λ (z : Alternative). In it z.items) b m)
    at (inr a) b = none (subst (λ (z : Rule). In it (alternative_at z i).items) a m)

-- woken facts bring nothing
woken_known : {k : ℕ} {S : List Stored} {W : List Entry} → Wakes k S W → Every (KnownEntry 32) W
woken_known move.none = every_none
woken_known (move.wakes m w) = every_more tt (woken_known w)
woken_known (move.sleeps m w) = woken_known w

-- an entry on top
top : {X : Type 0} {Q : X → Type 0} {x : X} {xs : List X} → Every Q (x ∷ xs) → Q x
top (every_more q qs) = q

module _ (K : Kind) (P : Program) (within : KnownProgram 32 P) where
  keeps : {s : State} {o : Outcome} → Transition K P s o → Known s → Known o.0
  keeps (move.solve_number m t z e) k = record { many = k.many; entries = below_top k.entries; facts = k.facts }
  keeps (move.solve_known c t z w f) k = record { many = k.many; entries = below_top k.entries; facts = k.facts }
  keeps (move.solve_narrowed {B = B} c d t z l w v m) k = record { many = length-set B c d ∙ k.many; entries = every_append (woken_known v) (below_top k.entries); facts = k.facts }
  keeps (move.activate c l) k = record { many = k.many; entries = every_more tt (below_top k.entries); facts = every_push k.facts (top k.entries) }
  keeps (move.reactivate f) k = record { many = k.many; entries = every_more tt (below_top k.entries); facts = k.facts }
  keeps (move.dropped f j e) k = record { many = k.many; entries = below_top k.entries; facts = k.facts }
  keeps (move.simplify {S = S} f j r h θ fs o F l) k = record {
    many = k.many;
    entries = every_more (body_known r (rule_at P r).body θ (combined_known F.combines k.facts)) (below_top k.entries);
    facts = every_without (drop (rule_at P r).kept (relation.identifiers fs)) S k.facts;
  }
  keeps (move.propagate {S = S} f j r h θ fs o F l R u m) k = record {
    many = k.many;
    entries = every_more (body_known r (rule_at P r).body θ (combined_known F.combines k.facts)) k.entries;
    facts = every_without (drop (rule_at P r).kept (relation.identifiers fs)) S k.facts;
  }
  keeps (move.default f j r h o N) k = record { many = k.many; entries = every_more tt (below_top k.entries); facts = k.facts }
  keeps (move.split r θ) k = k
  keeps (move.replaced r i θ e m) k = record { many = k.many; entries = every_append (entries_known θ (top k.entries) (items_known P within r i) e) (below_top k.entries); facts = k.facts }
  keeps move.fails k = k
  keeps (move.fails_number m t z e) k = k
  keeps (move.fails_cell c t z f) k = k
  keeps (move.breaks_item r i θ e b) k = k
  keeps (move.breaks_store c l) k = k
  keeps (move.breaks_waking c t z y w v m) k = k
  keeps (move.breaks_body f j r h θ fs o F l R u m) k = k
  keeps (move.breaks_items r i θ e m) k = k
  keeps (move.breaks_history f j r h θ fs o F R u) k = k

start_known : (K : Kind) (goal : List Item) → Every (KnownItem 32) goal → Known (start_of K goal)
start_known K goal g = record { many = length-replicate 32 K.whole; entries = at (entries_of unbound goal) refl; facts = every_none }
  where
    at : (x : Result (List Entry) Cause) → entries_of unbound goal ≡ x → Every (KnownEntry 32) (goal_entries x)
    at (Err c) e = every_none
    at (Ok es) e = entries_known unbound (λ i v q. no_some (sym (none_bound i) ∙ q)) (λ i m. every_in g m) (give_entries unbound goal es e)

derivation_known : (K : Kind) (P : Program) (goal : List Item) → KnownProgram 32 P → Every (KnownItem 32) goal → {p : Path} {n : ℕ} {s : State} {st : Standing End} → Derives K P goal p n s st → Known s
derivation_known K P goal w g initial = start_known K goal g
derivation_known K P goal w g (transition x d) = keeps K P w x (derivation_known K P goal w g d)
derivation_known K P goal w g (alternated i a b d) = let k = derivation_known K P goal w g d in record { many = k.many; entries = every_more (top k.entries) (below_top k.entries); facts = k.facts }

module _ (K : Kind) (P : Program) (goal : List Item) (law : Lawful K) (six : SixVariables P) (within : KnownProgram 32 P) (known : Every (KnownItem 32) goal) (few : length goal ≤ 16) where
  walk_known : {p : Path} {n : ℕ} {s : State} {st : Standing End} → Walks (machine K P goal) p n s st → Known s
  walk_known {p} {n} {s} {st} w = derivation_known K P goal within known ((walks_by_transitions.same K P goal law six few p n s st).0 w)

  top_known : (s : State) → Known s → TopKnown (length s.cells) s.stack
  top_known s k c t z below e =
      let l : c < 32 = top (subst (Every (KnownEntry 32)) e k.entries) in
      let m = k.many in
      omega arith

  quiet_run : {m : ℕ} {s t : State} → Still K P s m t → (p : Path) (n : ℕ) → Walks (machine K P goal) p n s branch → Quietly K P s m t
  quiet_run rests p n w = quietly.rests
  quiet_run (steps_on {s = s} {t = t} e a b c r) p n w =
      moves_on (record { moves = (walks_by_transitions.one K P goal law six few p n s w (t, branch)).1 (sym e); known = top_known s (walk_known w); store = a; cells = b; history = c }) (quiet_run r p (n + 1) (onward e w))

pub cells_known : CellsKnown
cells_known = record {
  walks = λ K P goal law six within known few p n s st w. walk_known K P goal law six within known few w;
  still = λ K P goal law six within known few small p n m s t w r. measure.few_quiet K P s t m small (walk_sound K P goal few w) (quiet_run K P goal law six within known few r p n w);
}
