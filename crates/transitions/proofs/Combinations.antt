-- The computed combination is the one that fires. Assumes nothing.
use Rattle.std.proofs.Common.{◌≡◌, ℕ, ◌<◌, ◌≤◌, true, ◌⊎◌, List, [], length, get_or, Some, None, Option, sym, refl, ap, ◌∙◌, subst, inl, inr, arith}
use lib.ListN.{length-map, get_or-replicate}
use Rattle.std.proofs.lemmas.Bool.{cases_lt}
use Rattle.std.proofs.lemmas.List.{get_or_past}
use Rattle.steps.specs.Program.{Rule}
use Rattle.steps.specs.State.{Kind, Value, Stored, Bindings, State}
use Rattle.steps.specs.Matching.{unbound, may_fire, Combination, combination}
use Rattle.steps.specs.Relations.{In, identifiers, Combines, Before, Fires, InHeads}
use Rattle.transitions.specs.Lawful.{Lawful}
use Rattle.transitions.specs.Sound.{Rising}
use Rattle.transitions.proofs.Basics.{some_same, no_some, each_long, ordered, same_facts}
use Rattle.transitions.proofs.Matches.{Extends, HeadsBelow, same_bindings, value_at}
use Rattle.transitions.proofs.Guards.{ready, fires_if}
use Rattle.transitions.proofs.Seeks.{Run, one_run, seek_none, seek_some}
use Rattle.transitions.proofs.Runs.{ahead, apart, standing, Parts, parts, run_for}

pub none_bound : (i : ℕ) → get_or unbound i None ≡ None
none_bound i = at (cases_lt i 6)
  where
    at : (i < 6) ⊎ (6 ≤ i) → get_or unbound i None ≡ None
    at (inl l) = get_or-replicate 6 i None None l
    at (inr l) = get_or_past unbound i None l

abbrev pub begin : Combination
begin = record { identifiers = []; bindings = unbound }

module _ (K : Kind) (law : Lawful K) (s : State) (rising : Rising s.store) (r : ℕ) (x : Rule) (six : HeadsBelow 6 x.heads) (place act : ℕ) (within : place < length x.heads) where
  -- facts that combine are run through, to their identifiers and bindings
  combines_run : (θ : Bindings) (fs : List Stored) → Combines K s r x place act θ fs → Run s.store act place 0 x.heads begin fs (record { identifiers = identifiers fs; bindings = θ })
  combines_run θ fs c =
      let l : length (identifiers fs) ≡ length fs = length-map fs (λ f. f.identifier) in
      let w = run_for s.store act place θ 0 x.heads begin fs six (λ i v e. no_some (sym (none_bound i) ∙ e)) c.matches c.present
      (standing act place 0 [] (identifiers fs) c.distinct (λ i m n. elim n [ ]) (ahead place (omega arith) (let p = c.fixed.0 in omega arith) c.fixed.1)) in
      let e : Combination = w.0 in
      let k = parts w.1 six in
      let q : e.bindings ≡ θ = same_bindings e.bindings θ (k.grown.long ∙ sym c.binds.six) w.2 (back e w.2 k) in
      let t : e.identifiers ≡ identifiers fs = k.told in
      let z : e ≡ record { identifiers = identifiers fs; bindings = θ } = λ i. record { identifiers = t i; bindings = q i } in
      subst (Run s.store act place 0 x.heads begin fs) z w.1
    where
      back : (e : Combination) → Extends e.bindings θ → Parts s.store act place 0 x.heads begin fs e → Extends θ e.bindings
      back e y k i v q =
          let a = value_at e.bindings x.heads fs k.matches i (c.binds.only i v q) in
          let z : a.0 ≡ v = some_same (sym (y i a.0 a.1) ∙ q) in
          a.1 ∙ ap (λ (w : Value). Some w) z

  -- what is run through and may fire combines
  run_combines : (e : Combination) (fs : List Stored) → Run s.store act place 0 x.heads begin fs e → may_fire K s r x e ≡ true → Combines K s r x place act e.bindings fs
  run_combines e fs w m =
      let k = parts w six in
      let a = apart act place 0 [] (identifiers fs) (λ l n. elim n [ ]) k.stands in
      let y = ready K law s r x e m in
      let l : length (identifiers fs) ≡ length fs = length-map fs (λ f. f.identifier) in
      let n : length x.heads ≡ length fs = each_long k.matches in
      let t : e.identifiers ≡ identifiers fs = k.told in
      record {
        present = k.present;
        distinct = a.distinct;
        fixed = (omega arith, a.fixed place (omega arith) (omega arith));
        binds = record { six = k.grown.long; only = λ i v q. mine i v (k.grown.only i v q) };
        matches = k.matches;
        guard = y.guard;
        fresh = λ h i. y.fresh h (subst (λ (z : List ℕ). In (record { rule = r; identifiers = z }) s.history) (sym t) i);
      }
    where
      mine : (i : ℕ) (v : Value) → (get_or unbound i None ≡ Some v) ⊎ InHeads i x.heads → InHeads i x.heads
      mine i v (inl q) = no_some (sym (none_bound i) ∙ q)
      mine i v (inr h) = h

  -- what combines may fire
  may : (θ : Bindings) (fs : List Stored) → Combines K s r x place act θ fs → may_fire K s r x (record { identifiers = identifiers fs; bindings = θ }) ≡ true
  may θ fs c = fires_if K law s r x (record { identifiers = identifiers fs; bindings = θ }) (record { guard = c.guard; fresh = c.fresh })

  -- none is found only where none combines
  pub missed : combination K s r x place act ≡ None → (θ : Bindings) (fs : List Stored) → Combines K s r x place act θ fs → ⊥
  missed e θ fs c = seek_none (may_fire K s r x) s.store act place rising (combines_run θ fs c) e (may θ fs c)

  met : (c : Combination) → combination K s r x place act ≡ Some c → (fs : List Stored) × Run s.store act place 0 x.heads begin fs c × Fires K s r x place act c.bindings fs
  met c e =
      let w = seek_some (may_fire K s r x) s.store act place rising x.heads 0 begin c e in
      (w.0, w.1.0, record { combines = run_combines c w.0 w.1.0 w.1.1; first = λ η gs d b. w.1.2 gs (record { identifiers = identifiers gs; bindings = η }) (combines_run η gs d) (may η gs d) b })

  -- what is found fires
  pub found : (c : Combination) → combination K s r x place act ≡ Some c → (fs : List Stored) × Fires K s r x place act c.bindings fs × (c.identifiers ≡ identifiers fs)
  found c e = let m = met c e in (m.0, m.2, (parts m.1 six).told)

  -- what fires is found
  pub finds : (θ : Bindings) (fs : List Stored) → Fires K s r x place act θ fs → combination K s r x place act ≡ Some (record { identifiers = identifiers fs; bindings = θ })
  finds θ fs f = at (combination K s r x place act) refl
    where
      mine : Combination
      mine = record { identifiers = identifiers fs; bindings = θ }

      same : (c : Combination) (gs : List Stored) → Run s.store act place 0 x.heads begin gs c → identifiers fs ≡ identifiers gs → c ≡ mine
      same c gs w q =
          let p : fs ≡ gs = same_facts s.store rising fs gs f.combines.present (parts w six).present q in
          one_run (subst (λ (z : List Stored). Run s.store act place 0 x.heads begin z c) (sym p) w) (combines_run θ fs f.combines)

      decide : (c : Combination) (gs : List Stored) → Run s.store act place 0 x.heads begin gs c → Fires K s r x place act c.bindings gs →
          (identifiers fs ≡ identifiers gs) ⊎ (Before (identifiers fs) (identifiers gs) ⊎ Before (identifiers gs) (identifiers fs)) → c ≡ mine
      decide c gs w g (inl q) = same c gs w q
      decide c gs w g (inr (inl b)) = absurd (g.first θ fs f.combines b)
      decide c gs w g (inr (inr b)) = absurd (f.first c.bindings gs g.combines b)

      at : (o : Option Combination) → combination K s r x place act ≡ o → o ≡ Some mine
      at None e = absurd (missed e θ fs f.combines)
      at (Some c) e =
          let m = met c e in
          let gs : List Stored = m.0 in
          let l : length (identifiers fs) ≡ length (identifiers gs) =
          length-map fs (λ f. f.identifier) ∙ sym (each_long f.combines.matches) ∙ each_long m.2.combines.matches ∙ sym (length-map gs (λ f. f.identifier)) in
          ap (λ (z : Combination). Some z) (decide c gs m.1 m.2 (ordered (identifiers fs) (identifiers gs) l))
