use Rattle.std.proofs.Common.{rules}
use Rattle.words.proofs.Names.{spelled_alike}
use Rattle.words.proofs.name.spelling.same_name.Goals as goal

pub returns : goal.returns
returns c = search (rules, spelled_alike)
