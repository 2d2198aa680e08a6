use Rattle.std.proofs.Common.{◌<◌, length, arith}
use Rattle.nz_classes.specs.Walks.{paired}
use Rattle.nz_classes.proofs.WalkLemmas.{column_start, column_more, column_end, extends_refl, extends_trans}
use Rattle.nz_classes.proofs.walking.spread.Goals as goal

pub loop-column-init : goal.loop-column-init
loop-column-init g c = record {
  part = c.requires.part;
  extends = extends_refl c.args.found.now;
  reached = column_start (length c.args.steps.now.sides.now) (paired c.args.steps.now.forms.now c.args.steps.now.sides.now) c.args.found.now c.args.point.now;
}

pub loop-column-preserved : goal.loop-column-preserved
loop-column-preserved g c =
    let w = length c.args.steps.now.sides.now in
    let l : c.loop-column.column < w = omega (arith, c.len-column-end.ensures) in
    let r = c.in-Ok.ensures in
    record {
      part = r.0;
      extends = extends_trans c.args.found.now c.loop-column.found c.step.new.found c.loop-column.invariant.extends r.1;
      reached = column_more w (paired c.args.steps.now.forms.now c.args.steps.now.sides.now) c.loop-column.column c.loop-column.found c.step.new.found c.args.point.now l r.1 c.loop-column.invariant.reached r.2;
    }

pub returns : goal.returns
returns g c =
    let w = length c.args.steps.now.sides.now in
    let i = c.loop-column.invariant in
    (i.part, i.extends, column_end w (paired c.args.steps.now.forms.now c.args.steps.now.sides.now) c.loop-column.column c.loop-column.found c.args.point.now (omega (arith, c.len-column-end.ensures, c.loop-column-test.false)) i.reached)
