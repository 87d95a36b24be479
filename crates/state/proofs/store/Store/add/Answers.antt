use Rattle.std.proofs.Common.{◌≡◌, [], ◌∷◌, ◌++◌, refl, arith}
use Rattle.std.proofs.lemmas.Grind.{common_steps}
use Rattle.state.proofs.Places.{pushed_rising}
use Rattle.state.proofs.store.Store.add.Goals as goal

pub invariant_of-self-2 : goal.invariant_of-self-2
invariant_of-self-2 c =
    let s = c.args.self.now in
    let e : c.push.new.self.items ≡ s.list.items ++ (record { identifier = s.next; fact = c.args.fact } ∷ []) = grind (arith, common_steps) in
    record { rising = pushed_rising s.next s.list.items c.push.new.self.items _ e refl s.rising }
