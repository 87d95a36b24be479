-- A plain goal is its own start. Assumes nothing.
use Rattle.std.proofs.Common.{List, [], ◌∷◌, replicate, ℤ, Result, ap}
use Rattle.parse.specs.Model.{Term}
use Rattle.parse.specs.Model as term
use Rattle.steps.specs.Program.{Item, add, tell, fail}
use Rattle.steps.specs.State.{Value, number, cell, Entry, Cause}
use Rattle.steps.specs.Matching.{unbound}
use Rattle.steps.specs.Relations.{Every, every_none, every_more, Each, each_none, each_more, as_number, as_cell, BodyValue, cell_value, number_value, BodyEntry, tells}
use Rattle.steps.specs.Relations as relation
use Rattle.steps.specs.Transitions.{state}
use Rattle.steps.specs.Walk.{goal_entries}
use Rattle.transitions.specs.Goals.{PlainNumber, PlainTerm, PlainItem, Writes, number_written, cell_written, Written, fact_written, tell_written, fail_written, PlainStarts}
use Rattle.transitions.proofs.Basics.{each_map}
use Rattle.transitions.proofs.Bodies.{entries_give}

-- all of them, if each
each_from : {X Y : Type 0} {Q : X → Type 0} {R : X → Y → Type 0} {xs : List X} → ((x : X) → Q x → (y : Y) × R x y) → Every Q xs → (ys : List Y) × Each R xs ys
each_from f every_none = ([], each_none)
each_from f (every_more q qs) =
    let a = f _ q in
    let b = each_from f qs in
    (a.0 ∷ b.0, each_more a.1 b.1)

writes : (t : Term) → PlainTerm t → (v : Value) × Writes t v
writes (term.number n) w = (number n, number_written n w)
writes (term.cell k) w = (cell k, cell_written k)
writes (term.variable i) w = absurd w
writes (term.sum i n) w = absurd w

writes_number : (t : Term) → PlainNumber t → (n : ℤ) × Writes t (number n)
writes_number (term.number n) w = (n, number_written n w)
writes_number (term.cell k) w = absurd w
writes_number (term.variable i) w = absurd w
writes_number (term.sum i n) w = absurd w

written : (i : Item) → PlainItem i → (e : Entry) × Written i e
written (add p) w = let a = each_from writes w in (_, fact_written p a.0 a.1)
written (tell c) w = let l = writes c.left w.0 in let r = writes_number c.right w.1 in (_, tell_written c l.0 r.0 l.1 r.1)
written fail w = (_, fail_written)

value : (t : Term) (v : Value) → Writes t v → BodyValue unbound t v
value t v (number_written n w) = number_value n (as_number n) w
value t v (cell_written k) = cell_value k (as_cell k)

entry : (i : Item) (e : Entry) → Written i e → BodyEntry unbound i e
entry i e (fact_written p vs a) = relation.adds p vs (each_map value a)
entry i e (tell_written c v n l r) = tells c v n (value c.left v l) (value c.right (number n) r)
entry i e fail_written = relation.fails

pub plain_starts : PlainStarts
plain_starts = record {
  entries = λ goal p. each_from written p;
  starts = λ K goal E w. ap (λ (x : Result (List Entry) Cause). state (goal_entries x) [] (replicate 32 K.whole) [] 1) (entries_give unbound goal E (each_map entry w));
}
