use Rattle.std.proofs.Common.{arith}
use Rattle.nz_primal.proofs.LoopLemmas.{end_more}
use Rattle.nz_primal.proofs.keys.end_of.Goals as goal

pub loop-place-preserved : goal.loop-place-preserved
loop-place-preserved g c =
    end_more g.T.Scalar.integer c.args.key.now c.args.count c.loop-place.place c.loop-place.entries.items c.push.new.self.items c.at.result
    (omega (arith, c.loop-place-test.true, c.len-place-end.ensures)) c.at.ensures c.loop-place.invariant c.in-Ok.ensures.items
