use Rattle.std.proofs.Common.{arith}
use Rattle.std.proofs.lemmas.Grind.{common_steps}
use Rattle.std.proofs.lemmas.List.{length-map}
use Rattle.facts.specs.Views.{stored}
use Rattle.state.specs.Stores.{facts_of}
use Rattle.state.proofs.Places.{back_rising, back_facts, lower_most}
use Rattle.state.proofs.store.Store.put_back.Goals as goal

pub invariant_of-self : goal.invariant_of-self
invariant_of-self c =
    let s = c.args.self.now in
    let place = c.in-Err.ensures in
    record { rising = grind (arith, common_steps, back_rising s.next c.in-Err.at c.args.fact s.list.items c.insert.new.self.items, s.rising) }

pub returns-in-Err-clause-facts : goal.returns-in-Err-clause-facts
returns-in-Err-clause-facts c =
    let s = c.args.self.now in
    let place = c.in-Err.ensures in
    let n = length-map s.list.items stored in
    let m = lower_most c.args.fact.identifier (facts_of s) in
    grind (arith, common_steps, back_facts s.next c.in-Err.at c.args.fact s.list.items c.insert.new.self.items)
