use Rattle.std.proofs.Common.{◌<◌, [], length, take, sym, subst, arith}
use Rattle.std.specs.List.{AllZip}
use Rattle.nz_spec.specs.Vectors.{Vector, unit_vectors}
use Rattle.nz_classes.specs.Classes.{IsRestOf}
use Rattle.nz_classes.specs.Walks.{paired}
use Rattle.nz_classes.proofs.SimplexLemmas.{zip_more, zip_none, zip_end}
use Rattle.nz_vec.proofs.UnitLemmas.{length-unit_vectors, unit_vector_at}
use Rattle.nz_classes.proofs.steps.unit_points.Goals as goal

pub loop-column-init : goal.loop-column-init
loop-column-init g c =
    let w = length c.args.sides.now in
    let R = IsRestOf w (paired c.args.forms.now c.args.sides.now) in
    subst (AllZip R (take 0 (unit_vectors w))) (sym c.new-points.ensures) (zip_none R (unit_vectors w))

pub loop-column-preserved : goal.loop-column-preserved
loop-column-preserved g c =
    let w = length c.args.sides.now in
    let R = IsRestOf w (paired c.args.forms.now c.args.sides.now) in
    let l : c.loop-column.column < w = omega (arith, c.len-column-end.ensures) in
    zip_more R (unit_vectors w) c.loop-column.points c.push.new.self c.loop-column.column [] c.in-Ok.point (omega (arith, l, length-unit_vectors w)) c.loop-column.invariant (subst (λ (u : Vector). R u c.in-Ok.point) (sym (unit_vector_at w c.loop-column.column l)) c.in-Ok.ensures) c.in-Ok-push.ensures.ok

pub returns : goal.returns
returns g c =
    let w = length c.args.sides.now in
    zip_end (IsRestOf w (paired c.args.forms.now c.args.sides.now)) (unit_vectors w) c.loop-column.points c.loop-column.column (omega (arith, c.len-column-end.ensures, c.loop-column-test.false, length-unit_vectors w)) c.loop-column.invariant
