use Rattle.nz_sweep.proofs.BaseLemmas.{units_are_base}
use Rattle.nz_sweep.proofs.DualLemmas.{units_dual}
use Rattle.nz_sweep.proofs.GeneratingLemmas.{units_echelon}
use Rattle.nz_sweep.proofs.basis.Basis.whole.Goals as goal

pub invariant_of-result : goal.invariant_of-result
invariant_of-result g c = (units_are_base c.args.width c.in-Ok.base.items c.in-Ok-unit_coordinates.coordinates.items c.in-Ok.ensures, units_dual c.args.width c.in-Ok.base.items c.in-Ok-unit_coordinates.coordinates.items c.in-Ok.ensures c.in-Ok-unit_coordinates.ensures)

pub returns-in-Ok-unit_coordinates-clause-echelon : goal.returns-in-Ok-unit_coordinates-clause-echelon
returns-in-Ok-unit_coordinates-clause-echelon g c = units_echelon c.args.width c.in-Ok.base.items c.in-Ok.ensures
