use Rattle.std.proofs.Common.{◌+◌, ◌-◌, ◌/◌, ◌<◌, ◌≤◌, sym, subst, arith}
use Rattle.nz_reducer.specs.Marks.{IsReached}
use Rattle.nz_reducer.proofs.MarkLemmas.{reach_up, reach_down, reach_end}
use Rattle.nz_reducer.proofs.marks.reach.Goals as goal

pub loop-low-preserved-then-is_reached : goal.loop-low-preserved-then-is_reached
loop-low-preserved-then-is_reached g c =
    let m = c.loop-low.low + (c.loop-low.high - c.loop-low.low) / 2 in
    let l : m < c.loop-low.high = omega (arith, c.loop-low-test.true) in
    reach_up g.T.Scalar.integer (λ m. m.sum) c.args.marks.now c.requires c.args.sum c.loop-low.low c.loop-low.high m c.loop-low.invariant l c.index-marks-middle.result c.index-marks-middle.is (subst (λ x. IsReached g.T.Scalar.integer x.sum c.args.sum) (sym c.index-marks-middle.is) c.if-is_reached.ensures)

pub loop-low-preserved : goal.loop-low-preserved
loop-low-preserved g c =
    let m = c.loop-low.low + (c.loop-low.high - c.loop-low.low) / 2 in
    let l : m < c.loop-low.high = omega (arith, c.loop-low-test.true) in
    let k : c.loop-low.low ≤ m = omega arith in
    reach_down g.T.Scalar.integer (λ m. m.sum) c.args.marks.now c.requires c.args.sum c.loop-low.low c.loop-low.high m c.loop-low.invariant l c.index-marks-middle.result c.index-marks-middle.is k (subst (λ x. ¬ IsReached g.T.Scalar.integer x.sum c.args.sum) (sym c.index-marks-middle.is) c.if-is_reached.ensures)

pub returns : goal.returns
returns g c = reach_end g.T.Scalar.integer (λ m. m.sum) c.args.marks.now c.args.sum c.loop-low.low c.loop-low.high c.loop-low.invariant c.loop-low-test.false
