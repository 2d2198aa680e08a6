use Rattle.nz_sweep.proofs.DualLemmas.{cleared_without}
use Rattle.nz_sweep.proofs.cutting.taken_out.Goals as goal

pub returns-in-Ok-clause-dual : goal.returns-in-Ok-clause-dual
returns-in-Ok-clause-dual g c = cleared_without c.args.width c.args.cleared.others.items c.args.cleared.coordinates.items c.remove.new.self.items c.args.cleared.place c.args.cleared.own c.in-Ok.base.items c.requires.inside c.requires.dual c.in-Ok.ensures c.remove.ensures.items

pub returns-in-Ok-clause-left : goal.returns-in-Ok-clause-left
returns-in-Ok-clause-left g c = (c.in-Ok.ensures, c.remove.ensures.items)
