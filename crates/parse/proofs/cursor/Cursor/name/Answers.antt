use Rattle.std.proofs.Common.{refl}
use Rattle.words.specs.Names.{name_bytes}
use Rattle.parse.proofs.cursor.Cursor.name.Goals as goal

pub returns-clause-told : goal.returns-clause-told
returns-clause-told c = ((c.in_ok-t.t.place, name_bytes c.in-Name.name), (refl, refl), simp (c.in_ok-t.ensures.1, c.in-Name.is))
