use Rattle.nz_frame.proofs.LatticeLemmas.{whole_base}
use Rattle.nz_frame.proofs.lattices.whole.Goals as goal

pub returns-clause-base : goal.returns-clause-base
returns-clause-base g c = whole_base c.args.width c.in-Ok.base c.in-Ok.ensures.units.0 c.in-Ok.ensures.units.1 c.rank-rank.ensures.base
