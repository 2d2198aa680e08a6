use Rattle.std.proofs.Common.{List, Some, None, subst}
use Rattle.std.specs.Prelude.{MatchOption}
use Rattle.nz_degree.specs.Degrees.{IsInOrder}
use Rattle.nz_spec.specs.Vectors.{Vector}
use Rattle.nz_pointed.specs.Pointed.{IsTooLarge}
use Rattle.nz_facets.proofs.NormalLemmas.{large_of_gens}
use Rattle.nz_facets.proofs.SupportLemmas.{rows_wide, rows_pointed, support_sorted}
use Rattle.nz_facets.proofs.describing.support_forms.Goals as goal

pub pointed_rays-requires-clause-widths : goal.pointed_rays-requires-clause-widths
pointed_rays-requires-clause-widths g c = rows_wide c.args.width c.args.columns.now c.args.gens.now c.in-Ok.rows c.requires.widths c.in-Ok.ensures

pub pointed_rays-requires-clause-pointed : goal.pointed_rays-requires-clause-pointed
pointed_rays-requires-clause-pointed g c = rows_pointed c.args.width c.args.columns.now c.args.gens.now c.in-Ok.rows c.requires.widths c.requires.columns c.in-Ok.ensures

pub returns-in-Err-pointed_rays : goal.returns-in-Err-pointed_rays
returns-in-Err-pointed_rays g c = λ e. large_of_gens c.args.width c.args.columns.now c.args.gens.now c.requires.widths c.requires.columns g.T.Scalar.HALF (subst (λ (rows : List Vector). IsTooLarge g.T.Scalar.HALF c.args.width rows) c.in-Ok.ensures (c.in-Err-pointed_rays.ensures e))

pub returns-in-Ok-sort : goal.returns-in-Ok-sort
returns-in-Ok-sort g c =
    let sorted = c.sort.new.list in
    support_sorted c.args.width c.args.columns.now c.args.gens.now c.in-Ok.rows c.in-Ok-pointed_rays.support sorted c.requires.widths c.requires.columns c.in-Ok.ensures c.in-Ok-pointed_rays.ensures c.in-Ok-sort.ensures.same
    (subst (λ o. MatchOption o (IsInOrder None sorted) (λ r. IsInOrder (Some r.now) sorted)) c.ungraded.ensures c.in-Ok-sort.ensures.order)
