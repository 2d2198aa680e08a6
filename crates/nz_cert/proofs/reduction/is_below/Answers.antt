use Rattle.std.proofs.Common.{arith}
use Rattle.std.proofs.lemmas.Int.{ints}
use Rattle.nz_cert.proofs.ReductionLemmas.{below_more}
use Rattle.nz_cert.proofs.reduction.is_below.Goals as goal

pub loop-column-preserved : goal.loop-column-preserved
loop-column-preserved g c = below_more c.args.low.now c.args.high.now c.loop-column.column (omega (arith, c.loop-column-test.true, c.len-column-end.ensures)) c.requires c.loop-column.invariant
    (omega (arith, ints, c.at.ensures, c.at-in-loop-column.ensures, c.if-is_above.ensures))
