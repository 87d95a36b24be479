use Rattle.lexed.proofs.Advance.{word_by_word}
use Rattle.lexed.proofs.whole.words_come_one_by_one.Goals as goal

pub returns : goal.returns
returns c = word_by_word
