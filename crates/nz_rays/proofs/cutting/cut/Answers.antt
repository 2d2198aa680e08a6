use Rattle.std.proofs.Common.{sym, subst}
use Rattle.std.specs.List.{AllByRecursion as Each}
use Rattle.nz_linear.proofs.Lists.{each_map}
use Rattle.nz_rays.specs.declared.crossings.Crossing.{Crossing}
use Rattle.nz_rays.specs.Crossings.{AreOnBothSides, IsCrossing}
use Rattle.nz_rays.proofs.RangeLemmas.{large_by_sum}
use Rattle.nz_rays.proofs.cutting.cut.Goals as goal

pub returns : goal.returns
returns g c = λ e.
    large_by_sum g.T.Scalar.HALF c.args.form.now c.in-Ok.values c.args.rays.now c.as_slice-3.result.now c.in-Ok.ensures
    (subst (Each (λ (q : Crossing). AreOnBothSides c.in-Ok.values q.above q.below)) (sym c.as_slice-3.ensures.value) (each_map (IsCrossing c.in-Ok.values c.args.zeros.now) (λ (q : Crossing). AreOnBothSides c.in-Ok.values q.above q.below) c.in-Ok-crossings.crossings.items (λ q i. i.sides) c.in-Ok-crossings.ensures.only))
    (c.in-Err-cut_rays.ensures e)
