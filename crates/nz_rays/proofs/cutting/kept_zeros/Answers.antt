use Rattle.std.proofs.Common.{◌<◌, length, arith}
use Rattle.nz_pointed.proofs.ListLemmas.{zip_more}
use Rattle.nz_rays.specs.Cuts.{AreKeptZeros}
use Rattle.nz_rays.proofs.PlaceLemmas.{read_at}
use Rattle.nz_rays.proofs.cutting.kept_zeros.Goals as goal

pub loop-index-preserved : goal.loop-index-preserved
loop-index-preserved g c =
    let within : c.loop-index.index < length c.args.kept.now = omega (arith, c.loop-index-test.true, c.len-index-end.ensures) in
    zip_more (AreKeptZeros c.args.values.now c.args.zeros.now c.args.last) c.args.kept.now c.loop-index.lists _ c.loop-index.index c.at.result c.in-Ok.places within (read_at c.args.kept.now c.loop-index.index c.at.result within c.at.ensures) c.loop-index.invariant c.in-Ok.ensures c.in-Ok-push.ensures.ok
