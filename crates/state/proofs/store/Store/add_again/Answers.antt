use Rattle.std.proofs.Common.{◌≡◌, [], ◌∷◌, ◌++◌, arith}
use Rattle.std.proofs.lemmas.Grind.{common_steps}
use Rattle.state.proofs.Places.{pushed_rising}
use Rattle.state.proofs.store.Store.add_again.Goals as goal

pub invariant_of-self : goal.invariant_of-self
invariant_of-self c =
    let s = c.args.self.now in
    let e : c.push.new.self.items ≡ s.list.items ++ (c.args.fact ∷ []) = grind (arith, common_steps) in
    record { rising = pushed_rising s.next s.list.items c.push.new.self.items c.args.fact e c.if-fact-self.true s.rising }
