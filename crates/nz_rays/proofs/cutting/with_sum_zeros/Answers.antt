use Rattle.nz_rays.specs.Cuts.{AreSumZeros}
use Rattle.nz_rays.proofs.PlaceLemmas.{appends_more}
use Rattle.nz_rays.proofs.cutting.with_sum_zeros.Goals as goal

pub loop-index-preserved : goal.loop-index-preserved
loop-index-preserved c = appends_more (AreSumZeros c.args.last) c.args.crossings.now c.args.into c.loop-index.into _ c.loop-index.index c.index-crossings-index.result c.in-Ok.places c.loop-index-test.true c.index-crossings-index.is c.loop-index.invariant c.in-Ok.ensures c.in-Ok-push.ensures.ok
