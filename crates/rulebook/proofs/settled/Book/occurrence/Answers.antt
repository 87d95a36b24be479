use Rattle.std.proofs.Common.{◌≡◌, ◌∙◌, ap, arith}
use Rattle.steps.specs.Program.{occurrences}
use Rattle.rulebook.specs.Rows.{slice}
use Rattle.rulebook.specs.Tables.{program}
use Rattle.rulebook.proofs.Listing.{none_at_0, row_at}
use Rattle.rulebook.proofs.settled.Book.occurrence.Goals as goal

pub returns-in_err-checked_sub-clause-found : goal.returns-in_err-checked_sub-clause-found
returns-in_err-checked_sub-clause-found c =
    let none : c.args.number ≡ 0 = omega (arith, c.in_err-checked_sub.ensures) in
    rw (c.from_residual.ensures, none) (none_at_0 (occurrences (program c.args.self.now) c.args.predicate.index))

pub returns : goal.returns
returns c =
    let row =
    row_at c.args.self.now c.args.predicate.index c.args.predicate.few c.index-span.result.now (rw (← c.from.ensures) c.index-span.ensures)
    c.part.result.now (c.part.ensures ∙ ap (λ z. slice z c.index-span.result.now) c.deref.ensures.value)
    _ _ _ c.get.ensures.lookup c.copied.ensures c.args.number (omega (arith, c.in_ok-checked_sub.ensures))
    in
    record { found = row.0; few = row.1 }
