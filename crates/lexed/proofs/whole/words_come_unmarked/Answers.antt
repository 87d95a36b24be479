use Rattle.lexed.proofs.Names.{unmarked}
use Rattle.lexed.proofs.whole.words_come_unmarked.Goals as goal

pub returns : goal.returns
returns c = unmarked
