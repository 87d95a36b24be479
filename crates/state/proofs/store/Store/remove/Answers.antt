use Rattle.std.proofs.Common.{sym}
use Rattle.state.specs.Stores.{facts_of}
use Rattle.state.proofs.Ordered.{removed_absent}
use Rattle.state.proofs.Places.{taken_rising, taken_facts}
use Rattle.state.proofs.store.Store.remove.Goals as goal

pub invariant_of-self : goal.invariant_of-self
invariant_of-self c =
    let s = c.args.self.now in
    record { rising = taken_rising s.next c.in-Ok.at s.list.items c.remove.new.self.items c.remove.ensures.items s.rising }

pub returns-in-Ok-clause-facts : goal.returns-in-Ok-clause-facts
returns-in-Ok-clause-facts c =
    let s = c.args.self.now in
    taken_facts s.next c.in-Ok.at s.list.items c.remove.new.self.items c.remove.ensures.items s.rising c.args.identifier c.in-Ok.ensures

pub returns-in_default-clause-facts : goal.returns-in_default-clause-facts
returns-in_default-clause-facts c = sym (removed_absent c.args.identifier (facts_of c.args.self.now) c.in_default.ensures.1)
