use Rattle.nz_cert.proofs.OrderingLemmas.{not_before_equal, not_before_greater}
use Rattle.nz_cert.proofs.ordering.is_before.Goals as goal

pub returns-in-Equal : goal.returns-in-Equal
returns-in-Equal g c = not_before_equal _ c.args.u.now c.args.v.now c.in-Equal.ensures

pub returns-in-Greater : goal.returns-in-Greater
returns-in-Greater g c = not_before_greater _ c.args.u.now c.args.v.now c.in-Greater.ensures
