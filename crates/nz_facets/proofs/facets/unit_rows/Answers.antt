use Rattle.std.proofs.Common.{arith}
use Rattle.nz_facets.proofs.RowLemmas.{units_more}
use Rattle.nz_facets.proofs.facets.unit_rows.Goals as goal

pub loop-index-preserved : goal.loop-index-preserved
loop-index-preserved g c = units_more c.args.width c.args.columns.now c.loop-index.index c.at.result c.loop-index.rows c.in-Ok.rows (omega (arith, c.loop-index-test.true, c.len-index-end.ensures)) c.at.ensures c.loop-index.invariant c.in-Ok.ensures
