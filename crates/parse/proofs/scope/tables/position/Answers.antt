use Rattle.std.proofs.Common.{rules}
use Rattle.std.proofs.lemmas.Iterator.{YieldsList-from_slice, IsFirst-from_position}
use borrow.Author.Tests.{tests}
use Rattle.words.specs.Names.{name_bytes}
use Rattle.parse.proofs.Names.{Has, Lacks, found_first}
use Rattle.parse.proofs.scope.tables.position.Goals as goal

pub returns : goal.returns
returns c =
    let v = name_bytes c.args.name.now in
    found_first name_bytes v c.args.names.now c.position.result (IsFirst-from_position _ _ c.position.result (Has name_bytes v) (Lacks name_bytes v) c.position.ensures.ran (YieldsList-from_slice c.args.names.now cc) (λ x q k. search (rules, tests)) (λ x q k. search (rules, tests)))
