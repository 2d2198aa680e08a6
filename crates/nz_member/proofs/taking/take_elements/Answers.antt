use Rattle.std.proofs.Common.{◌<◌, length, map, arith}
use Rattle.nz_member.specs.Amounts.{rows_of}
use Rattle.nz_member.proofs.AmountSteps.{leave_next, push_counts}
use Rattle.nz_member.proofs.taking.take_elements.Goals as goal

pub loop-place-preserved : goal.loop-place-preserved
loop-place-preserved g c =
    let int = g.T.Scalar.integer in
    let l : c.loop-place.place < length c.args.hilbert.now = omega (arith, c.loop-place-test.true, c.len-place-end.ensures) in (
      leave_next (rows_of c.args.constraints.now) c.args.hilbert.now c.loop-place.place c.at.result.now (map int c.args.values.now.items) (map int c.loop-place.counts.items) (map int c.push.new.self.items) (map int c.loop-place.values.items) (map int c.take_element.new.values.items) (int c.in-Ok.count)
          l c.at.ensures (push_counts int c.loop-place.counts.items c.push.new.self.items c.in-Ok.count c.in-Ok-push.ensures.items) c.loop-place.invariant.0 c.in-Ok.ensures.taken,
      c.in-Ok.ensures.amounts,
    )
