use Rattle.nz_rays.proofs.StartLemmas.{others_more}
use Rattle.nz_rays.proofs.double.other_places.Goals as goal

pub loop-place-preserved : goal.loop-place-preserved
loop-place-preserved c = others_more c.args.count c.loop-place.place c.loop-place.lists c.push.new.self c.in-Ok.others c.loop-place.invariant c.in-Ok.ensures c.in-Ok-push.ensures.ok
