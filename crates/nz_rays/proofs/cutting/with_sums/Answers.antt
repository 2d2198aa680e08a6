use Rattle.nz_rays.specs.Cuts.{IsSum}
use Rattle.nz_rays.proofs.PlaceLemmas.{appends_more}
use Rattle.nz_rays.proofs.cutting.with_sums.Goals as goal

pub loop-index-preserved : goal.loop-index-preserved
loop-index-preserved g c = appends_more (IsSum c.args.values.now c.args.rays.now) c.args.crossings.now c.args.into c.loop-index.into _ c.loop-index.index c.index-crossings-index.result c.in-Ok.sum c.loop-index-test.true c.index-crossings-index.is c.loop-index.invariant c.in-Ok.ensures c.in-Ok-push.ensures.ok
