use Rattle.std.proofs.Common.{◌+◌, ap, ◌∙◌}
use Rattle.nz_vec.proofs.DivisorLemmas.{quotient_more}
use Rattle.nz_vec.proofs.entries.quotients.Goals as goal

pub loop-entry-preserved : goal.loop-entry-preserved
loop-entry-preserved g c = (
  c.push_reserved.ensures.len ∙ ap (λ n. n + 1) c.loop-entry.invariant.0,
  c.push_reserved.ensures.capacity ∙ c.loop-entry.invariant.1,
  quotient_more g.T.Scalar.integer g.T.Scalar.fits c.args.entries.now c.loop-entry.quotients.items _ c.entry-item.result c.unwrap.result c.floor_div.result (g.T.Scalar.integer c.args.by) c.loop-entry.entry-index c.loop-entry-test.true c.entry-item.is c.requires.positive c.requires.divides c.loop-entry.invariant.2 c.unwrap.ensures c.floor_div.ensures.value c.push_reserved.ensures.items,
)
