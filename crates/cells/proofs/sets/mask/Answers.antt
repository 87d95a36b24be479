use Rattle.std.proofs.Common.{◌≡◌, ap₂, unsigned_abs, arith}
use Rattle.std.proofs.lemmas.Int.{ints}
use Rattle.cells.specs.Bitwise.{shifts}
use Rattle.cells.specs.Sets.{window}
use Rattle.cells.proofs.sets.mask.Goals as goal

pub overflow_sub-result-3 : goal.overflow_sub-result-3
overflow_sub-result-3 c =
    let p = shifts c.unsigned_abs-low.result c.unsigned_abs-high.result (omega (arith, ints)) (omega (arith, ints)) in
    omega (arith, p.0, p.1, p.2)

pub returns : goal.returns
returns c =
    let p = shifts c.unsigned_abs-low.result c.unsigned_abs-high.result (omega (arith, ints)) (omega (arith, ints)) in
    let l : c.unsigned_abs-low.result ≡ unsigned_abs c.args.s.low = omega (arith, ints) in
    let h : c.unsigned_abs-high.result ≡ unsigned_abs c.args.s.high = omega (arith, ints) in
    rw (p.0, p.1) (ap₂ window l h)
