use Rattle.nz_frame.proofs.LatticeLemmas.{generated_base}
use Rattle.nz_frame.proofs.lattices.generated.Goals as goal

pub returns-clause-base : goal.returns-clause-base
returns-clause-base g c = generated_base c.args.width c.args.vectors.now c.in-Ok.base c.in-Ok.ensures.width c.in-Ok.ensures.same c.rank-rank.ensures.base
