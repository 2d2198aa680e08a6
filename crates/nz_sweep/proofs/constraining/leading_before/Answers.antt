use Rattle.nz_sweep.proofs.ConstrainingLemmas.{between_found, all_before, before_more}
use Rattle.nz_sweep.proofs.constraining.leading_before.Goals as goal

pub loop-place-preserved : goal.loop-place-preserved
loop-place-preserved c = before_more c.args.columns.now c.args.column c.loop-place.place c.if-columns-place.false c.if-column-columns.false c.loop-place.invariant

pub returns-then-column-columns : goal.returns-then-column-columns
returns-then-column-columns c = between_found c.args.columns.now c.args.column c.loop-place.place c.requires c.loop-place-test.true c.if-column-columns.true c.loop-place.invariant

pub returns : goal.returns
returns c = all_before c.args.columns.now c.args.column c.loop-place.place c.loop-place-test.false c.loop-place.invariant
