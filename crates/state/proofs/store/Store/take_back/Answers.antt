use Rattle.facts.specs.Views.{stored}
use Rattle.state.proofs.Ends.{popped_off}
use Rattle.state.proofs.Places.{popped_rising, popped_next}
use Rattle.state.proofs.store.Store.take_back.Goals as goal

pub invariant_of-self : goal.invariant_of-self
invariant_of-self c = record { rising = popped_rising _ _ _ c.in-Some.last c.in-Some.ensures.items c.args.self.now.rising }

pub returns-in-Some-clause-facts : goal.returns-in-Some-clause-facts
returns-in-Some-clause-facts c = popped_off stored _ _ c.in-Some.last c.in-Some.ensures.items

pub returns-in-Some-clause-next : goal.returns-in-Some-clause-next
returns-in-Some-clause-next c = popped_next c.args.self.now.next _ _ c.in-Some.last c.in-Some.ensures.items
