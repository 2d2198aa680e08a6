use Rattle.nz_classes.proofs.SumLemmas.{split_refusal}
use Rattle.nz_classes.proofs.balance.balanced_sum.Goals as goal

pub returns-in-None-merged : goal.returns-in-None-merged
returns-in-None-merged g c = split_refusal g.T.Scalar.integer g.T.Scalar.fits c.args.terms.now c.in-Ok.halves.0.items c.in-Ok.halves.1.items c.in-Ok.ensures c.in-None-merged.ensures
