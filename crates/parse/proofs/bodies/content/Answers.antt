use Rattle.std.proofs.Common.{ap, ◌∙◌}
use Rattle.syntax.specs.Tree as tree
use Rattle.syntax.specs.Readers.{read_items, read_content}
use Rattle.parse.specs.Cursors.{rest}
use Rattle.parse.specs.Flat.{item_of}
use Rattle.parse.specs.Scopes.{scope}
use Rattle.parse.proofs.Scoped.{row_here}
use Rattle.parse.proofs.Faults.{retold, faulted_same}
use Rattle.parse.proofs.Chains.{content_led, content_items}
use Rattle.parse.proofs.bodies.content.Goals as goal

pub returns-clause-told : goal.returns-clause-told
unfolding read_items
returns-clause-told c =
    let s = c.if-skip.ensures.told in
    let read = read_items c.args.most (scope c.args.scope) in
    let same = ap (read_content c.args.most (scope c.args.scope)) s.0 in
    retold c.parts.new.cursor c.parts.result
    (λ x y i e. (tree.items y, row_here item_of c.args.scope c.parts.new.scope y i.0 i.1, same ∙ content_items read (rest c.skip.new.self) s.1 e))
    (λ f h. faulted_same same (content_led read (rest c.skip.new.self) s.1 h))
    c.parts.ensures.told
