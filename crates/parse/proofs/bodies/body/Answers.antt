use Rattle.syntax.specs.Readers.{read_body}
use Rattle.parse.specs.Flat.{alternative_of}
use Rattle.parse.proofs.Scoped.{row_here}
use Rattle.parse.proofs.Faults.{retold}
use Rattle.parse.proofs.bodies.body.Goals as goal

pub returns-clause-told : goal.returns-clause-told
unfolding read_body
returns-clause-told c =
    retold c.parts.new.cursor c.parts.result (λ x y i e. (y, row_here alternative_of c.args.scope c.parts.new.scope y i.0 i.1, e)) (λ f h. h) c.parts.ensures.told
