use Rattle.std.proofs.Common.{◌+◌, ap, ◌∙◌, arith}
use Rattle.nz_vec.proofs.UnitLemmas.{entry_more, entries_all}
use Rattle.nz_vec.proofs.unit_vectors.unit.Goals as goal

pub loop-column-preserved : goal.loop-column-preserved
loop-column-preserved g c = (
  c.push_reserved.ensures.len ∙ ap (λ n. n + 1) c.loop-column.invariant.0,
  c.push_reserved.ensures.capacity ∙ c.loop-column.invariant.1,
  entry_more g.T.Scalar.integer c.args.width c.args.place c.loop-column.column c.loop-column.entries.items _ c.unit_entry.result c.loop-column-test.true c.loop-column.invariant.2 (c.unit_entry.ensures c.args.width c.loop-column-test.true) c.push_reserved.ensures.items,
)

pub returns : goal.returns
returns g c = c.from_vec.ensures ∙ c.loop-column.invariant.2 ∙ entries_all c.args.width c.args.place c.loop-column.column (omega (arith, c.loop-column-test.false))
