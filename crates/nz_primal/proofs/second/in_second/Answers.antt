use Rattle.nz_primal.specs.Parts.{of_coordinates, of_pull}
use Rattle.nz_primal.proofs.FaceLemmas.{rays_inside}
use Rattle.nz_primal.proofs.second.in_second.Goals as goal

pub all_coordinates-requires-clause-inside : goal.all_coordinates-requires-clause-inside
all_coordinates-requires-clause-inside g c = rays_inside c.args.width c.in-Ok.base.width c.args.rows.now c.args.rays.now c.in-Ok.base.vectors c.in-Ok.ensures.base c.requires.rays

pub returns-in-Err-all_coordinates-clause-cause : goal.returns-in-Err-all_coordinates-clause-cause
returns-in-Err-all_coordinates-clause-cause g c = λ e. of_coordinates c.in-Ok.ensures.sweeps (c.in-Err-all_coordinates.ensures.cause e)

pub returns-in-Err-all_pulled-clause-cause : goal.returns-in-Err-all_pulled-clause-cause
returns-in-Err-all_pulled-clause-cause g c = λ e. of_pull c.in-Ok.ensures.sweeps (c.in-Err-all_pulled.ensures e)
