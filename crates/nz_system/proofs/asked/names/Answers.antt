use Rattle.nz_system.proofs.Asking.{names-more}
use Rattle.nz_system.proofs.asked.names.Goals as goal

pub loop-place-preserved : goal.loop-place-preserved
loop-place-preserved c = names-more c.args.goal c.args.goals.now c.loop-place.place c.at.result c.loop-place.found c.named_by-found.result c.at.ensures c.loop-place.invariant c.named_by-found.ensures
