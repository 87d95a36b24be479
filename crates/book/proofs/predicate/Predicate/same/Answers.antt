use Rattle.book.proofs.Numbering.{agreeing_by_names}
use Rattle.book.proofs.predicate.Predicate.same.Goals as goal

pub returns-then-self-other : goal.returns-then-self-other
returns-then-self-other c = agreeing_by_names c.args.self.now c.args.other.now c.same_name.result c.if-self-other.true c.same_name.ensures
