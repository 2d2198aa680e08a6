use Rattle.std.proofs.Common.{◌<◌, ◌+◌, length, refl, sym, ◌∙◌, subst, arith}
use Rattle.nz_lift.specs.Directions.{AreDirections}
use Rattle.nz_lift.proofs.PointLemmas.{untold_refused, rows_large, first_length, first_shadow, no_points, fronts_long, for_lift, next_shadow, forms_large, lift_refused, all_points}
use Rattle.nz_lift.proofs.points.lift.Goals as goal

pub returns-in-Err : goal.returns-in-Err
returns-in-Err g c = untold_refused g.T.Scalar.HALF c.args.limit c.args.rank c.args.rows.now c.args.level.now c.in-Err.refusal c.untold.result (λ e. rows_large g.T.Scalar.HALF c.args.rank c.args.rows.now c.args.level.now (c.in-Err.ensures e)) c.untold.ensures

pub returns-then-len-eq0 : goal.returns-then-len-eq0
returns-then-len-eq0 g c =
    let r = subst (AreDirections {T = g.row.T.Denot} c.args.rank c.args.rows.now c.args.level.now) c.in-Ok-Rays.field-0-is c.in-Ok-Rays.ensures in
    no_points c.args.rank c.args.rows.now c.args.level.now c.in-Ok-Rays.rays r c.args.limit c.new.result (sym c.len.ensures ∙ c.if-len-eq0.true) c.new.ensures

pub loop-place-init : goal.loop-place-init
loop-place-init g c =
    let r = subst (AreDirections {T = g.row.T.Denot} c.args.rank c.args.rows.now c.args.level.now) c.in-Ok-Rays.field-0-is c.in-Ok-Rays.ensures in
    first_shadow c.args.rank c.args.rows.now c.args.level.now c.in-Ok-Rays.rays r c.args.limit c.in-Ok.list (omega (arith, c.len.ensures, c.if-len-eq0.false)) c.in-Ok.ensures

pub forms_of-requires : goal.forms_of-requires
forms_of-requires g c =
    let r = subst (AreDirections {T = g.row.T.Denot} c.args.rank c.args.rows.now c.args.level.now) c.in-Ok-Rays.field-0-is c.in-Ok-Rays.ensures in
    let some : 0 < length c.in-Ok-Rays.rays = omega (arith, c.len.ensures, c.if-len-eq0.false) in
    let n = first_length c.args.rank c.args.rows.now c.args.level.now c.in-Ok-Rays.rays r c.len-place-end.result c.at.result.now c.len-place-end.ensures c.at.ensures some in
    fronts_long c.args.rank c.args.rows.now c.args.level.now c.in-Ok-Rays.rays r c.args.limit c.loop-place.place c.loop-place.list c.loop-place.invariant (omega (arith, n, c.loop-place-test.true)) (c.loop-place.place + 1) refl

pub returns-in-Err-forms_of : goal.returns-in-Err-forms_of
returns-in-Err-forms_of g c =
    let r = subst (AreDirections {T = g.row.T.Denot} c.args.rank c.args.rows.now c.args.level.now) c.in-Ok-Rays.field-0-is c.in-Ok-Rays.ensures in
    let some : 0 < length c.in-Ok-Rays.rays = omega (arith, c.len.ensures, c.if-len-eq0.false) in
    let n = first_length c.args.rank c.args.rows.now c.args.level.now c.in-Ok-Rays.rays r c.len-place-end.result c.at.result.now c.len-place-end.ensures c.at.ensures some in
    untold_refused g.T.Scalar.HALF c.args.limit c.args.rank c.args.rows.now c.args.level.now c.in-Err-forms_of.refusal c.untold-in-Err-forms_of.result
    (λ e. forms_large c.args.rank c.args.rows.now c.args.level.now c.in-Ok-Rays.rays r c.args.limit c.loop-place.place c.loop-place.list c.loop-place.invariant (omega (arith, n, c.loop-place-test.true)) g.T.Scalar.HALF (c.in-Err-forms_of.ensures e))
    c.untold-in-Err-forms_of.ensures

pub lifted-requires : goal.lifted-requires
lifted-requires g c =
    let r = subst (AreDirections {T = g.row.T.Denot} c.args.rank c.args.rows.now c.args.level.now) c.in-Ok-Rays.field-0-is c.in-Ok-Rays.ensures in
    let some : 0 < length c.in-Ok-Rays.rays = omega (arith, c.len.ensures, c.if-len-eq0.false) in
    let n = first_length c.args.rank c.args.rows.now c.args.level.now c.in-Ok-Rays.rays r c.len-place-end.result c.at.result.now c.len-place-end.ensures c.at.ensures some in
    for_lift c.args.rank c.args.rows.now c.args.level.now c.in-Ok-Rays.rays r c.args.limit c.loop-place.place c.loop-place.list c.loop-place.invariant (omega (arith, n, c.loop-place-test.true)) c.in-Ok-forms_of.forms c.in-Ok-forms_of.ensures

pub returns-in-Err-lifted : goal.returns-in-Err-lifted
returns-in-Err-lifted g c =
    let r = subst (AreDirections {T = g.row.T.Denot} c.args.rank c.args.rows.now c.args.level.now) c.in-Ok-Rays.field-0-is c.in-Ok-Rays.ensures in
    let some : 0 < length c.in-Ok-Rays.rays = omega (arith, c.len.ensures, c.if-len-eq0.false) in
    let n = first_length c.args.rank c.args.rows.now c.args.level.now c.in-Ok-Rays.rays r c.len-place-end.result c.at.result.now c.len-place-end.ensures c.at.ensures some in
    lift_refused c.args.rank c.args.rows.now c.args.level.now c.in-Ok-Rays.rays r c.args.limit c.loop-place.place c.loop-place.list c.loop-place.invariant (omega (arith, n, c.loop-place-test.true)) g.T.Scalar.HALF c.in-Ok-forms_of.forms c.in-Err-lifted.refusal c.in-Ok-forms_of.ensures c.in-Err-lifted.ensures.list

pub loop-place-preserved : goal.loop-place-preserved
loop-place-preserved g c =
    let r = subst (AreDirections {T = g.row.T.Denot} c.args.rank c.args.rows.now c.args.level.now) c.in-Ok-Rays.field-0-is c.in-Ok-Rays.ensures in
    let some : 0 < length c.in-Ok-Rays.rays = omega (arith, c.len.ensures, c.if-len-eq0.false) in
    let n = first_length c.args.rank c.args.rows.now c.args.level.now c.in-Ok-Rays.rays r c.len-place-end.result c.at.result.now c.len-place-end.ensures c.at.ensures some in
    next_shadow c.args.rank c.args.rows.now c.args.level.now c.in-Ok-Rays.rays r c.args.limit c.loop-place.place c.loop-place.list c.loop-place.invariant (omega (arith, n, c.loop-place-test.true)) c.in-Ok-forms_of.forms c.in-Ok-lifted.list c.in-Ok-forms_of.ensures c.in-Ok-lifted.ensures.list c.in-Ok-lifted.ensures.within

pub returns : goal.returns
returns g c =
    let r = subst (AreDirections {T = g.row.T.Denot} c.args.rank c.args.rows.now c.args.level.now) c.in-Ok-Rays.field-0-is c.in-Ok-Rays.ensures in
    let some : 0 < length c.in-Ok-Rays.rays = omega (arith, c.len.ensures, c.if-len-eq0.false) in
    let n = first_length c.args.rank c.args.rows.now c.args.level.now c.in-Ok-Rays.rays r c.len-place-end.result c.at.result.now c.len-place-end.ensures c.at.ensures some in
    all_points c.args.rank c.args.rows.now c.args.level.now c.in-Ok-Rays.rays r c.args.limit c.loop-place.place c.loop-place.list some (omega (arith, n, c.loop-place-test.false)) c.loop-place.invariant
