use Rattle.std.proofs.Common.{[], ◌∷◌, ◌++◌, map, vec_items, sym, ap, ◌∙◌, arith}
use Rattle.std.proofs.lemmas.List.{map_push}
use Rattle.parse.specs.Model.{mention}
use Rattle.book.specs.Predicates.{predicates, coded, these}
use Rattle.book.proofs.Numbering.{noted_known, noted_new, noted_over, predicates_length}
use Rattle.book.proofs.predicate.Predicates.note.Goals as goal

pub returns-then-knows : goal.returns-then-knows
returns-then-knows c = noted_known (predicates c.args.self.now) (mention c.args.fact.now) (sym c.if-knows.ensures)

pub returns-then-len-ge-MOST_PREDICATES : goal.returns-then-len-ge-MOST_PREDICATES
returns-then-len-ge-MOST_PREDICATES c =
    let e = predicates_length c.args.self.now in
    noted_over (predicates c.args.self.now) (mention c.args.fact.now) (sym c.if-knows.ensures) (omega (arith, e))

pub returns : goal.returns
returns c =
    let ps = predicates c.args.self.now in
    let f = c.args.fact.now in
    let e = predicates_length c.args.self.now in
    noted_new ps (mention f) (sym c.if-knows.ensures) (omega (arith, e, c.if-len-ge-MOST_PREDICATES.false))
    ∙ ap these (sym (ap (map coded) c.in_ok-push.ensures.items ∙ map_push coded (vec_items c.args.self.now.list) _ ∙ ap (λ q. ps ++ q ∷ []) c.of.ensures))
