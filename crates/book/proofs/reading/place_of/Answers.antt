use Rattle.std.proofs.Common.{◌<◌, ◌≤◌, length, vec_items, arith}
use Rattle.std.proofs.lemmas.Bool.{lt-ltb, le-ltb}
use Rattle.lexed.specs.Texts.{places}
use Rattle.book.proofs.Verdicts.{places_length, place_at, ended_by}
use Rattle.book.proofs.reading.place_of.Goals as goal

pub returns-then-i-len : goal.returns-then-i-len
returns-then-i-len c =
    let l = vec_items c.args.tokens.now.list in
    let n = c.args.tokens.now.list.ok.0 in
    let e = places_length l in
    let h : c.args.i < length l = omega (arith, n, c.if-i-len.true, c.len.ensures) in
    (lt-ltb c.args.i (length (places l)) (omega (arith, e)), place_at l c.args.i c.index.result.now h c.index.ensures)

pub returns : goal.returns
returns c =
    let l = vec_items c.args.tokens.now.list in
    let n = c.args.tokens.now.list.ok.0 in
    let e = places_length l in
    let h : length l ≤ c.args.i = omega (arith, n, c.if-i-len.false, c.len.ensures) in
    (le-ltb c.args.i (length (places l)) (omega (arith, e)), ended_by c.args.tokens.now.ending c.at_end.result c.at_end.ensures)
