use Rattle.transitions.proofs.Texts.{texts_fit}
use Rattle.transitions.proofs.accepted_texts_fit.Goals as goal

pub returns : goal.returns
returns c = texts_fit
