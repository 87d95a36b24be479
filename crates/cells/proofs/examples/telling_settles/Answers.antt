use Rattle.cells.proofs.AnyKind.{settles}
use Rattle.cells.proofs.examples.telling_settles.Goals as goal

pub returns : goal.returns
returns g c =
    settles g.K.Kind.content g.K.Kind.member g.K.Kind.narrowed g.K.Kind.asked
    g.met.K.Kind.inhabited g.met.K.Kind.extensional g.met.K.Kind.narrows g.met.K.Kind.answers
