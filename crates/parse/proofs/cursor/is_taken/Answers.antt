use Rattle.std.proofs.Common.{rules}
use Rattle.std.proofs.lemmas.Iterator.{YieldsList-from_slice, cases_from_any}
use borrow.Author.Tests.{tests}
use Rattle.words.specs.Names.{name_bytes}
use Rattle.parse.specs.Rules.{label_bytes}
use Rattle.parse.proofs.Names.{Has, Lacks, found_any}
use Rattle.parse.proofs.cursor.is_taken.Goals as goal

pub returns : goal.returns
returns c =
    let v = name_bytes c.args.name.now in
    found_any label_bytes v c.args.rules.now c.any.result (cases_from_any _ _ c.any.result (Has label_bytes v) (Lacks label_bytes v) c.any.ensures.ran (YieldsList-from_slice c.args.rules.now cc) (λ x q k. search (rules, tests)) (λ x q k. search (rules, tests)))
