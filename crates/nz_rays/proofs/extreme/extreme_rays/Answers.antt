use Rattle.std.proofs.Common.{◌+◌, length, sym, subst, arith}
use Rattle.nz_rays.specs.Descriptions.{RowsAndRays}
use Rattle.nz_rays.proofs.RayLemmas.{IsHeld, held_start, held_skip, held_add, held_large, held_rays}
use Rattle.nz_rays.proofs.extreme.extreme_rays.Goals as goal
use Rattle.nz_rays.proofs.extreme.extreme_rays.Goals.{then-not-contains+in-Ok-add, else-not-contains}

pub loop-place-init : goal.loop-place-init
loop-place-init g c = held_start (length c.args.simplex.now.places) c.args.rows.now c.args.simplex.now.rays c.args.simplex.now.places c.in-Ok.double c.requires.simplex c.in-Ok.ensures.rows.0 c.in-Ok.ensures.rows.1 c.in-Ok.ensures.rays

pub returns-in-Err-add : goal.returns-in-Err-add
returns-in-Err-add g c = λ e.
    held_large g.T.Scalar.HALF (length c.args.simplex.now.places) c.args.rows.now c.args.simplex.now.places c.loop-place.place c.at.result.now c.loop-place.double c.requires.widths (omega (arith, c.loop-place-test.true, c.len-place-end.ensures)) c.at.ensures c.loop-place.invariant (c.in-Err-add.ensures.range e)

pub loop-place-preserved : goal.loop-place-preserved
loop-place-preserved g c =
    let places = c.args.simplex.now.places in
    let w = length places in
    let rows = c.args.rows.now in
    let place = c.loop-place.place in
    elim c.if-not-contains.branch [
      | then-not-contains+in-Ok-add b ↦ subst (λ (d : RowsAndRays). IsHeld w rows places (place + 1) d) (sym b.double-is)
          (held_add w rows places place b.at.result.now c.loop-place.double b.add.new.self (omega (arith, c.loop-place-test.true, c.len-place-end.ensures)) b.at.ensures b.in-Ok-add.ensures.rows b.in-Ok-add.ensures.rays c.loop-place.invariant)
      | else-not-contains b ↦ subst (λ (d : RowsAndRays). IsHeld w rows places (place + 1) d) (sym b.double-is)
          (held_skip w rows places place c.loop-place.double b.if-not-contains.ensures c.loop-place.invariant)
    ]

pub returns : goal.returns
returns g c =
    held_rays (length c.args.simplex.now.places) c.args.rows.now c.into_rays.result c.args.simplex.now.places c.loop-place.place c.loop-place.double (omega (arith, c.loop-place-test.false, c.len-place-end.ensures)) c.loop-place.invariant c.into_rays.ensures.description c.into_rays.ensures.value
