use Rattle.std.proofs.Common.{◌<ℤ◌, pos, [], ◌∷◌}
use Rattle.nz_linear.proofs.Lists.{each_left, each_right}
use Rattle.nz_sweep.specs.Duals.{Coordinate}
use Rattle.nz_sweep.specs.GroupConstraints.{none}
use Rattle.nz_sweep.proofs.ConstrainingLemmas.{congruences_more, nothing_more}
use Rattle.nz_sweep.proofs.constraining.with_congruences.Goals as goal

pub loop-coordinate-init : goal.loop-coordinate-init
loop-coordinate-init g c = λ h. ([], none, nothing_more c.args.list)

pub loop-coordinate-preserved : goal.loop-coordinate-preserved
loop-coordinate-preserved g c = λ h.
    let i = c.loop-coordinate.invariant (each_left (λ (k : Coordinate). pos 0 <ℤ k.divisor) c.loop-coordinate.yielded (c.in-Some.coordinate ∷ []) h) in
    let p = each_right (λ (k : Coordinate). pos 0 <ℤ k.divisor) c.loop-coordinate.yielded (c.in-Some.coordinate ∷ []) h in
    congruences_more c.loop-coordinate.yielded c.in-Some.coordinate i.0 c.args.list c.loop-coordinate.list c.in-Ok.list i.1 i.2 (c.in-Ok.ensures p.0)
