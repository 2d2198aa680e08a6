use Rattle.std.proofs.Common.{length}
use Rattle.std.specs.Prelude.{unsigned_abs}
use Rattle.nz_spec.specs.Vectors.{plus}
use Rattle.nz_linear.specs.Echelon.{unit_at}
use Rattle.nz_classes.specs.Walks.{paired}
use Rattle.nz_classes.proofs.SortLemmas.{match_result}
use Rattle.nz_classes.proofs.WalkLemmas.{put_part, put_extends, reaches_put, full_refusal}
use Rattle.nz_classes.proofs.walking.step.Goals as goal

pub returns-in-Err : goal.returns-in-Err
returns-in-Err g c = c.work_of.ensures (unsigned_abs g.T.Scalar.HALF) c.args.limit c.args.steps.now.sides.now c.args.steps.now.forms.now c.in-Err.ensures

pub returns : goal.returns
returns g c =
    let sides = c.args.steps.now.sides.now in
    let forms = c.args.steps.now.forms.now in
    let w = length sides in
    let ps = paired forms sides in
    let old = c.args.found.now in
    let new = c.note.new.found in
    let x = c.in-Ok.next in
    let r = c.in-Ok.ensures in
    match_result _ _ _ _
    (λ _ h. (
      put_part w ps c.args.limit old x new c.requires.part r.width r.reduced h.0 h.1,
      put_extends old x new h.0,
      reaches_put w ps old x new (plus c.args.point.now (unit_at w c.args.column)) h.0 r,
    ))
    (λ e h. full_refusal sides forms c.requires.prepared.simplex (unsigned_abs g.T.Scalar.HALF) c.args.limit old x new c.requires.part r.width r.reduced e h)
    c.note.result c.note.ensures
