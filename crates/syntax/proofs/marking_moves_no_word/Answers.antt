use Rattle.syntax.proofs.Raw.{marked_length, raw_again}
use Rattle.syntax.proofs.marking_moves_no_word.Goals as goal

pub returns : goal.returns
returns c = (marked_length, raw_again)
