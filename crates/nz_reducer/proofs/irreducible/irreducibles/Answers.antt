use Rattle.nz_spec.specs.Vectors.{HasWidth}
use Rattle.nz_spec.proofs.ListLaws.{Each-contains}
use Rattle.nz_reducer.specs.Reducers.{IsUnreduced}
use Rattle.nz_reducer.proofs.Places.{in_order_list}
use Rattle.nz_reducer.proofs.irreducible.irreducibles.Goals as goal

pub returns-in-Ok-in_order : goal.returns-in-Ok-in_order
returns-in-Ok-in_order g c = in_order_list c.requires.width (IsUnreduced c.args.rows.now c.args.candidates.now) (λ x u. Each-contains (HasWidth c.requires.width) c.args.candidates.now x c.requires.candidates_wide u.candidate) _ c.in-Ok-in_order.rows c.in-Ok-unreduced.ensures c.in-Ok-in_order.ensures.permutation c.in-Ok-in_order.ensures.order
