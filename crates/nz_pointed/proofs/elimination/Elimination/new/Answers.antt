use Rattle.nz_pointed.proofs.StepLemmas.{elimination_start}
use Rattle.nz_pointed.proofs.elimination.Elimination.new.Goals as goal

pub returns-in-Ok : goal.returns-in-Ok
returns-in-Ok g c = elimination_start c.args.width _ _ _ c.new.ensures c.new-in-Ok.ensures.items c.in-Ok.ensures
