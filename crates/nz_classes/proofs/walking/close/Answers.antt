use Rattle.std.proofs.Common.{◌<◌, length, arith}
use Rattle.nz_classes.specs.Walks.{paired}
use Rattle.nz_classes.proofs.WalkLemmas.{places_start, places_more, places_end, extends_refl, extends_trans}
use Rattle.nz_classes.proofs.walking.close.Goals as goal

pub loop-place-init : goal.loop-place-init
loop-place-init g c = record {
  part = c.requires.part;
  extends = extends_refl c.args.found.now;
  expanded = places_start (length c.args.steps.now.sides.now) (paired c.args.steps.now.forms.now c.args.steps.now.sides.now) c.args.found.now;
}

pub loop-place-preserved : goal.loop-place-preserved
loop-place-preserved g c =
    let r = c.in-Ok.ensures in
    let l : c.loop-place.place < length c.loop-place.found = omega (arith, c.len.ensures) in
    record {
      part = r.0;
      extends = extends_trans c.args.found.now c.loop-place.found c.expand.new.found c.loop-place.invariant.extends r.1;
      expanded = places_more (length c.args.steps.now.sides.now) (paired c.args.steps.now.forms.now c.args.steps.now.sides.now) c.loop-place.place c.loop-place.found c.expand.new.found l r.1 c.loop-place.invariant.expanded r.2;
    }

pub returns : goal.returns
returns g c =
    let i = c.loop-place.invariant in
    (i.part, i.extends, places_end (length c.args.steps.now.sides.now) (paired c.args.steps.now.forms.now c.args.steps.now.sides.now) c.loop-place.place c.loop-place.found (omega (arith, c.len.ensures, c.loop-place-test.false)) i.expanded)
