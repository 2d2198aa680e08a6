use Rattle.std.proofs.Common.{Option, ap, subst}
use Rattle.nz_spec.specs.Vectors.{Vector}
use Rattle.nz_system.specs.Meaning.{SystemData}
use Rattle.nz_solve.specs.Parts.{IsSorted}
use Rattle.nz_solve.proofs.ListLemmas.{graded_at}
use Rattle.nz_solve.proofs.DualLemmas.{rows_at, simplex_at, rays_wide_at, back_wide_at, extreme_at, rays_refused_at, back_refused_at, degree_refused_at}
use Rattle.nz_solve.proofs.by_dual.extreme_generators.Goals as goal

pub extreme_rays-requires-clause-widths : goal.extreme_rays-requires-clause-widths
extreme_rays-requires-clause-widths g c = rows_at c.args.system.now.system c.args.frame.now.base c.args.frame.now.rows c.kept.ensures.system c.requires.frame c.args.simplex.now.places c.args.simplex.now.rays c.requires.simplex

pub extreme_rays-requires-clause-simplex : goal.extreme_rays-requires-clause-simplex
extreme_rays-requires-clause-simplex g c = simplex_at c.args.system.now.system c.args.frame.now.base c.args.frame.now.rows c.kept.ensures.system c.requires.frame c.args.simplex.now.places c.args.simplex.now.rays c.requires.simplex

pub all_vectors-requires : goal.all_vectors-requires
all_vectors-requires g c = rays_wide_at c.args.system.now.system c.args.frame.now.base c.args.frame.now.rows c.kept.ensures.system c.requires.frame c.args.simplex.now.places c.args.simplex.now.rays c.requires.simplex c.in-Ok.rays c.in-Ok.ensures

pub put_in_order-requires : goal.put_in_order-requires
put_in_order-requires g c = graded_at c.args.system.now.system c.kept.ensures.system c.system.inside.grading (ap (λ (d : SystemData). d.system.grading) c.system.view_is) _ (back_wide_at c.args.system.now.system c.args.frame.now.base c.args.frame.now.rows c.kept.ensures.system c.requires.frame c.args.simplex.now.places c.args.simplex.now.rays c.requires.simplex c.in-Ok.rays c.in-Ok-all_vectors.list c.in-Ok.ensures c.in-Ok-all_vectors.ensures)

pub returns-in-Ok-put_in_order-clause-extreme : goal.returns-in-Ok-put_in_order-clause-extreme
returns-in-Ok-put_in_order-clause-extreme g c = extreme_at c.args.system.now.system c.args.frame.now.base c.args.frame.now.rows c.kept.ensures.system c.requires.frame c.args.simplex.now.places c.args.simplex.now.rays c.requires.simplex c.in-Ok.rays c.in-Ok-all_vectors.list c.in-Ok-put_in_order.list c.in-Ok.ensures c.in-Ok-all_vectors.ensures
    (subst (λ (o : Option Vector). IsSorted o c.in-Ok-all_vectors.list c.in-Ok-put_in_order.list) (ap (λ (d : SystemData). d.system.grading) c.system.view_is) c.in-Ok-put_in_order.ensures.sorted)

pub returns-in-Err-clause-cause : goal.returns-in-Err-clause-cause
returns-in-Err-clause-cause g c = λ e. rays_refused_at c.args.system.now.system c.args.frame.now.base c.args.frame.now.rows c.kept.ensures.system c.requires.frame c.args.simplex.now.places c.args.simplex.now.rays c.requires.simplex g.T.Scalar.HALF g.T.Scalar.fits g.met.T.Scalar.room c.requires.swept (c.in-Err.ensures e)

pub returns-in-Err-all_vectors-clause-cause : goal.returns-in-Err-all_vectors-clause-cause
returns-in-Err-all_vectors-clause-cause g c = λ e. back_refused_at c.args.system.now.system c.args.frame.now.base c.args.frame.now.rows c.kept.ensures.system c.requires.frame c.args.simplex.now.places c.args.simplex.now.rays c.requires.simplex g.T.Scalar.HALF g.T.Scalar.fits g.met.T.Scalar.room c.requires.swept c.in-Ok.rays c.in-Ok.ensures (c.in-Err-all_vectors.ensures e)

pub returns-clause-cause : goal.returns-clause-cause
returns-clause-cause g c = λ e. degree_refused_at c.args.system.now.system c.args.frame.now.base c.args.frame.now.rows c.kept.ensures.system c.requires.frame c.args.simplex.now.places c.args.simplex.now.rays c.requires.simplex g.T.Scalar.HALF g.T.Scalar.fits g.met.T.Scalar.room c.system.inside.grading (ap (λ (d : SystemData). d.system.grading) c.system.view_is) c.in-Ok.rays c.in-Ok-all_vectors.list c.in-Ok.ensures c.in-Ok-all_vectors.ensures (c.in-Err-put_in_order.ensures.cause e)
