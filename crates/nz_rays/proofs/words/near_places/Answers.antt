use Rattle.std.proofs.Common.{◌<◌, length, ◌∙◌, refl, arith}
use Rattle.nz_rays.proofs.WordLemmas.{near_push, near_skip, near_all}
use Rattle.nz_rays.proofs.words.near_places.Goals as goal
use Rattle.nz_rays.proofs.words.near_places.Goals.{then-not-have_few+in-Ok, else-not-have_few}

pub loop-index-preserved : goal.loop-index-preserved
loop-index-preserved c =
    let within : c.loop-index.index < length c.args.busy.now = omega (arith, c.loop-index-test.true, c.len-index-end.ensures) in
    elim c.if-not-have_few.branch [
      | then-not-have_few+in-Ok w ↦ near_push c.args.columns.now c.args.busy.now c.loop-index.index c.at-place.result c.args.first c.args.needed c.loop-index.near _ within c.at-place.ensures c.loop-index.invariant (w.near-is ∙ w.in-Ok.ensures.ok)
      | else-not-have_few w ↦ rw w.near-is (near_skip c.args.columns.now c.args.busy.now c.loop-index.index c.at-place.result c.args.first c.args.needed c.loop-index.near within c.at-place.ensures c.loop-index.invariant (w.if-not-have_few.ensures refl))
    ]

pub returns : goal.returns
returns c = near_all c.args.columns.now c.args.busy.now c.loop-index.index c.args.first c.args.needed c.loop-index.near (omega (arith, c.loop-index-test.false, c.len-index-end.ensures)) c.loop-index.invariant
