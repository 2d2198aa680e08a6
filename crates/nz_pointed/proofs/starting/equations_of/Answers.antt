use Rattle.nz_pointed.proofs.StepLemmas.{left_all_nonzero}
use Rattle.nz_pointed.proofs.starting.equations_of.Goals as goal

pub equations-requires : goal.equations-requires
equations-requires g c = left_all_nonzero _ _ _ _ _ c.in-Ok.ensures

pub returns-in-Ok-equations : goal.returns-in-Ok-equations
returns-in-Ok-equations g c = c.in-Ok-equations.ensures c.args.width c.args.rows.now c.requires c.in-Ok.ensures
