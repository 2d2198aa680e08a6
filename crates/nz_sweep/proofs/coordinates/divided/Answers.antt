use Rattle.std.proofs.Common.{◌<◌, ◌+◌, ◌∙◌, ℤ, length, ap, subst, arith}
use Rattle.nz_spec.specs.Vectors.{entry}
use Rattle.nz_scalar.specs.Division.{IsFloorQuotient}
use Rattle.nz_sweep.proofs.LowerLemmas.{divided_more, exact_of, each_entry}
use Rattle.nz_sweep.proofs.coordinates.divided.Goals as goal

pub loop-place-preserved : goal.loop-place-preserved
loop-place-preserved g c =
    let Z = g.T.Scalar.integer in
    let inside : c.loop-place.place < length c.args.form.now = omega (arith, c.loop-place-test.true, c.len-place-end.ensures) in (
      c.push_reserved.ensures.len ∙ ap (λ n. n + 1) c.loop-place.invariant.0,
      c.push_reserved.ensures.capacity ∙ c.loop-place.invariant.1,
      divided_more Z (Z c.args.by) c.args.form.now c.loop-place.entries.items c.push_reserved.new.self.items c.loop-place.place c.floor.result inside c.loop-place.invariant.2 (exact_of (entry c.args.form.now c.loop-place.place) (Z c.args.by) (Z c.floor.result) c.requires.positive (each_entry (Z c.args.by) c.args.form.now c.loop-place.place c.requires.divides inside) (subst (λ (t : ℤ). IsFloorQuotient t (Z c.args.by) (Z c.floor.result)) c.at.ensures c.floor.ensures)) c.push_reserved.ensures.items,
    )
