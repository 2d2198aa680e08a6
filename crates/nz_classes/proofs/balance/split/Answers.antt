use Rattle.nz_classes.proofs.SumLemmas.{split_more}
use Rattle.nz_classes.proofs.balance.split.Goals as goal

pub loop-term-preserved : goal.loop-term-preserved
loop-term-preserved g c = split_more g.T.Scalar.integer c.args.terms.now c.loop-term.term-index c.term-item.result c.loop-term.above.items c.loop-term.below.items c.sort_in.new.above.items c.sort_in.new.below.items c.loop-term-test.true c.term-item.is c.loop-term.invariant c.in-Ok.ensures
