use Rattle.std.proofs.Common.{arith}
use Rattle.nz_rays.proofs.PlaceLemmas.{sought_right, sought_left, sought_none}
use Rattle.nz_rays.proofs.zero_sets.has.Goals as goal

pub halves-preserved-then-found-place-2 : goal.halves-preserved-then-found-place-2
halves-preserved-then-found-place-2 c =
    let e = c.at-found.ensures in
    sought_right c.args.set.now c.args.place c.halves.low c.halves.high _ c.requires c.halves.invariant (omega arith) (omega arith) (omega arith)

pub halves-preserved : goal.halves-preserved
halves-preserved c =
    let e = c.at-found.ensures in
    sought_left c.args.set.now c.args.place c.halves.low c.halves.high _ c.requires c.halves.invariant (omega arith) (omega arith) (omega arith)

pub returns : goal.returns
returns c = sought_none c.args.set.now c.args.place c.halves.low c.halves.high c.halves.invariant (omega (arith, c.halves-test.false))
