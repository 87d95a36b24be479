use Rattle.std.proofs.Common.{ℕ, Some, ap, ◌∙◌, w32}
use Rattle.std.proofs.lemmas.Int.{to_z-of_z}
use Rattle.cells.specs.BoundsLaws.{clips_none, clips_some}
use Rattle.cells.proofs.bounds.BoundsKind.narrow.Goals as goal

pub returns-in_err-left : goal.returns-in_err-left
returns-in_err-left c =
    c.from_residual-in_err-left.ensures
    ∙ clips_none c.args.c c.in_ok-s.s c.args.by (to_z-of_z w32 c.args.n c.ranges.n) c.in_ok-s.ensures c.in_err-left.ensures

pub pack-requires : goal.pack-requires
pack-requires c =
    let p = clips_some c.args.c c.in_ok-s.s c.in_ok-left.left c.args.by (to_z-of_z w32 c.args.n c.ranges.n) c.in_ok-s.ensures c.in_ok-left.ensures in
    (p.0, (p.1, p.2))

pub returns : goal.returns
returns c =
    let p = clips_some c.args.c c.in_ok-s.s c.in_ok-left.left c.args.by (to_z-of_z w32 c.args.n c.ranges.n) c.in_ok-s.ensures c.in_ok-left.ensures in
    ap (λ (x : ℕ). Some x) c.pack.ensures ∙ p.3
