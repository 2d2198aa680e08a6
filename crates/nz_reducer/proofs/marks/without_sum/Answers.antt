use Rattle.nz_reducer.proofs.MarkLemmas.{first_summed, none_summed, summed_more}
use Rattle.nz_reducer.proofs.marks.without_sum.Goals as goal

pub returns-in-Some : goal.returns-in-Some
returns-in-Some g c = first_summed g.T.Scalar.integer (λ m. m.sum) c.args.marks.now c.requires c.loop-index.index c.index-marks-index.result c.in-Some.field-0 c.loop-index-test.true c.index-marks-index.is c.in-Some.is c.loop-index.invariant

pub loop-index-preserved : goal.loop-index-preserved
loop-index-preserved g c = summed_more g.T.Scalar.integer (λ m. m.sum) c.args.marks.now c.requires c.loop-index.index c.index-marks-index.result c.loop-index-test.true c.index-marks-index.is c.in-None.is c.loop-index.invariant

pub returns : goal.returns
returns g c = none_summed g.T.Scalar.integer (λ m. m.sum) c.args.marks.now c.requires c.loop-index.index c.loop-index-test.false c.loop-index.invariant
