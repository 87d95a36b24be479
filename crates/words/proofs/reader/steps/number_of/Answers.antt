use Rattle.std.proofs.Common.{◌≡◌, ◌+◌, ◌-◌, ◌*◌, ◌^◌, ap, ◌∙◌, pow-suc, add-one, arith}
use Rattle.std.proofs.lemmas.List.{take_all}
use Rattle.std.proofs.lemmas.List.Sums.{fold_more}
use Rattle.words.specs.Lex.{value}
use Rattle.words.proofs.reader.steps.number_of.Goals as goal

pub loop-d-preserved : goal.loop-d-preserved
loop-d-preserved c =
    let e = fold_more (λ a b. a * 10 + (b - 48)) 0 c.args.digits.now c.loop-d.d-index 0 c.loop-d-test.true in
    let p : 10 ^ (c.loop-d.d-index + 1) ≡ 10 ^ c.loop-d.d-index * 10 = rw (add-one, pow-suc) in
    (omega (arith, e, c.loop-d.invariant.0), omega (arith, p, c.loop-d.invariant.1, c.type_inv.digits c.loop-d.d-index))

pub returns : goal.returns
returns c = c.loop-d.invariant.0 ∙ ap value (take_all c.loop-d.d-index c.args.digits.now (omega arith))
