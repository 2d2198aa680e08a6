use Rattle.std.proofs.Common.{◌<◌, length, arith}
use Rattle.nz_primal.proofs.FaceLemmas.{face_from_units, face_step}
use Rattle.nz_primal.proofs.FaceMoves.{moves_start, moves_more, moves_refused}
use Rattle.nz_primal.proofs.second.face.Goals as goal

pub loop-place-init : goal.loop-place-init
loop-place-init g c =
    let f = face_from_units c.args.width c.in-Ok.base.width c.args.rows.now c.args.rays.now c.in-Ok.base.vectors (c.in-Ok.ensures.units.0, c.in-Ok.ensures.units.1) in
    (f.0, f.1, moves_start c.args.rays.now c.args.rows.now c.args.width c.in-Ok.base c.in-Ok.ensures.units)

pub loop-place-preserved : goal.loop-place-preserved
loop-place-preserved g c =
    let l : c.loop-place.place < length c.args.rows.now = omega (arith, c.loop-place-test.true, c.len-place-end.ensures) in
    let f = face_step c.args.width c.args.rows.now c.args.rays.now c.loop-place.place c.at.result.now c.loop-place.base c.cut_at.new.base l c.at.ensures c.in-Ok-cut_at.ensures.cut (c.loop-place.invariant.0, c.loop-place.invariant.1) in
    (f.0, f.1, moves_more c.args.rays.now c.args.rows.now c.args.width c.loop-place.place c.at.result.now c.loop-place.base c.cut_at.new.base l c.at.ensures c.in-Ok-cut_at.ensures.moves c.loop-place.invariant.2)

pub returns-in-Err-cut_at-clause-cause : goal.returns-in-Err-cut_at-clause-cause
returns-in-Err-cut_at-clause-cause g c = λ e.
    let l : c.loop-place.place < length c.args.rows.now = omega (arith, c.loop-place-test.true, c.len-place-end.ensures) in
    moves_refused c.args.rays.now c.args.rows.now c.args.width g.T.Scalar.HALF g.T.Scalar.fits c.loop-place.place c.at.result.now c.loop-place.base l c.at.ensures c.loop-place.invariant.2 (c.in-Err-cut_at.ensures.cause e)
