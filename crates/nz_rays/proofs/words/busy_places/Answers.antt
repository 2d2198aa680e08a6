use Rattle.std.proofs.Common.{◌∙◌, refl}
use Rattle.nz_rays.proofs.WordLemmas.{busy_push, busy_skip}
use Rattle.nz_rays.proofs.words.busy_places.Goals as goal
use Rattle.nz_rays.proofs.words.busy_places.Goals.{then-not-have_few+in-Ok, else-not-have_few}

pub loop-place-preserved : goal.loop-place-preserved
loop-place-preserved c = elim c.if-not-have_few.branch [
  | then-not-have_few+in-Ok w ↦ busy_push c.args.columns.now c.loop-place.place c.args.needed c.loop-place.busy _ c.loop-place.invariant (w.busy-is ∙ w.in-Ok.ensures.ok)
  | else-not-have_few w ↦ rw w.busy-is (busy_skip c.args.columns.now c.loop-place.place c.args.needed c.loop-place.busy c.loop-place.invariant (w.if-not-have_few.ensures refl))
]
