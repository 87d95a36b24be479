use Rattle.std.proofs.Common.{rules, map, refl, sym, subst}
use Rattle.std.proofs.lemmas.Iterator.{YieldsList-from_slice}
use Rattle.std.proofs.lemmas.Iterator.Search.{position_from_yields_List}
use borrow.Author.Tests.{tests}
use Rattle.book.specs.Predicates.{Numbered, coded, predicates_agree}
use Rattle.book.proofs.Numbering.{numbered_by}
use Rattle.book.proofs.predicate.numbering.position.Goals as goal

pub returns : goal.returns
returns c =
    let q = coded c.args.predicate.now in
    let known = c.args.list.now in
    subst (Numbered (map coded known) q) (sym (position_from_yields_List (λ k. predicates_agree (coded k) q) _ _ c.position.result c.position.ensures.ran (YieldsList-from_slice known cc) (λ x b r k. search (rules, tests)))) (numbered_by q (λ k. predicates_agree (coded k) q) (λ k. refl) known)
