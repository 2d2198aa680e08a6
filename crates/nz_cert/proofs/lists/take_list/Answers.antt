use Rattle.nz_cert.proofs.ListLemmas.{list_none}
use Rattle.nz_cert.proofs.lists.take_list.Goals as goal

pub returns-in-None : goal.returns-in-None
returns-in-None c = list_none c.args.width _ _ _ c.in-None.ensures
