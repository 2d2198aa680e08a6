use Rattle.std.proofs.Common.{arith}
use Rattle.nz_blocks.proofs.RowReadings.{behind_more}
use Rattle.nz_blocks.proofs.reading_blocks.behind.Goals as goal

pub loop-index-preserved : goal.loop-index-preserved
loop-index-preserved c = behind_more c.args.text.now c.args.bytes.now c.args.from c.loop-index.index c.loop-index.place (omega arith) c.loop-index.invariant c.if-not-is_at.ensures
