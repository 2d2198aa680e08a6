use Rattle.std.proofs.Common.{◌∙◌, sym, subst}
use Rattle.nz_pointed.specs.Pointed.{IsAnswer}
use Rattle.nz_rays.proofs.StartLemmas.{simplex_width, simplex_at_width}
use Rattle.nz_tests_engines.proofs.rays_tests.started.Goals as goal

pub new-requires : goal.new-requires
new-requires g c = simplex_at_width c.args.rank c.args.rows.now c.in-Simplex.simplex.rays c.in-Simplex.simplex.places (subst (IsAnswer c.args.rank c.args.rows.now) c.in-Simplex.is c.in-Ok.ensures)

pub returns-in-Ok-new : goal.returns-in-Ok-new
returns-in-Ok-new g c = c.in-Ok-new.ensures.rows.0 ∙ sym (simplex_width c.args.rank c.args.rows.now c.in-Simplex.simplex.rays c.in-Simplex.simplex.places (subst (IsAnswer c.args.rank c.args.rows.now) c.in-Simplex.is c.in-Ok.ensures))
