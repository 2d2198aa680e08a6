use Rattle.std.proofs.Common.{◌<◌, length, arith}
use Rattle.nz_bench.proofs.SimplexLemmas.{chosen_more}
use Rattle.nz_bench.proofs.measures.chosen.Goals as goal

pub loop-index-preserved : goal.loop-index-preserved
loop-index-preserved c =
    let within : c.loop-index.index < length c.args.places.now = omega (arith, c.loop-index-test.true, c.len-index-end.ensures) in
    chosen_more c.args.rows.now c.args.places.now c.loop-index.index c.at.result c.at-in-loop-index.result.now c.in-Ok.copy c.loop-index.forms c.push.new.self within c.at.ensures c.at-in-loop-index.ensures c.in-Ok.ensures c.loop-index.invariant c.in-Ok-push.ensures.ok
