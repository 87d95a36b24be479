use Rattle.std.proofs.Common.{ap, ◌∙◌}
use Rattle.book.specs.Predicates.{coded, predicates_agree}
use Rattle.account.proofs.occurrences.is_of.Goals as goal

pub returns : goal.returns
returns c = c.same.ensures ∙ ap (λ p. predicates_agree p (coded c.args.predicate.now)) c.of.ensures
