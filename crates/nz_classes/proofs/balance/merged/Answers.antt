use Rattle.nz_classes.proofs.SumLemmas.{merge_more, merge_refusal}
use Rattle.nz_classes.proofs.balance.merged.Goals as goal

pub returns-in-None : goal.returns-in-None
returns-in-None g c = merge_refusal g.T.Scalar.integer g.T.Scalar.fits g.T.Scalar.HALF g.met.T.Scalar.room c.args.above.items c.args.below.items (g.T.Scalar.integer c.terms.sum) c.terms.above.items c.terms.below.items c.take_towards_zero.new.above.items c.take_towards_zero.new.below.items c.in-Some.term c.terms.invariant c.in-Some.ensures c.in-None.ensures

pub terms-preserved : goal.terms-preserved
terms-preserved g c = merge_more g.T.Scalar.integer g.T.Scalar.fits g.T.Scalar.HALF g.met.T.Scalar.room c.args.above.items c.args.below.items (g.T.Scalar.integer c.terms.sum) (g.T.Scalar.integer c.in-Some-try_add.more) c.terms.above.items c.terms.below.items c.take_towards_zero.new.above.items c.take_towards_zero.new.below.items c.in-Some.term c.terms.invariant c.in-Some.ensures c.in-Some-try_add.ensures
