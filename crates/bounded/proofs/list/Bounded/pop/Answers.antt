use Rattle.std.proofs.Common.{ap, sym, ◌∙◌}
use Rattle.bounded.proofs.Ends.{none_off}
use Rattle.bounded.proofs.list.Bounded.pop.Goals as goal

pub returns-clause-none : goal.returns-clause-none
returns-clause-none g c = none_off _ _ _ (ap (λ b. b.items) (sym c.self.view_is) ∙ c.pop.ensures.items)
