use Rattle.std.proofs.Common.{arith, rules}
use Rattle.nz_text.proofs.Spots.{solid-at}
use Rattle.nz_text.proofs.pieces.run_end.Goals as goal

pub loop-at-preserved : goal.loop-at-preserved
loop-at-preserved c = record {
  from = omega arith;
  within = omega arith;
  solid = solid-at c.args.text.now c.args.from c.loop-at.at c.loop-at.invariant.solid c.loop-at.invariant.from c.loop-at-test.true (search rules);
}
