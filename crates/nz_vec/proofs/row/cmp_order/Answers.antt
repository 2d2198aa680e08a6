use Rattle.nz_vec.proofs.OrderLemmas.{compares_entries}
use Rattle.nz_vec.proofs.row.cmp_order.Goals as goal

pub returns-in-Equal : goal.returns-in-Equal
returns-in-Equal g c = compares_entries g.T.Scalar.integer g.T.Ord.cmp g.met.T.Scalar.ordered c.args.du c.args.dv c.u.inside.entries.items c.v.inside.entries.items _ _ c.args.u.now c.args.v.now c.cmp-in-Equal.result c.u.view_is c.v.view_is c.requires c.as_slice.ensures.value c.as_slice-in-Equal.ensures.value c.in-Equal.ensures c.cmp-in-Equal.ensures
