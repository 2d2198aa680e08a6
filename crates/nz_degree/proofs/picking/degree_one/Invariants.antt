use Rattle.std.proofs.Common.{◌≡◌, take}
use Rattle.nz_spec.specs.Order.{degree}
use Rattle.nz_order.specs.Picks.{Picks}
use Rattle.nz_degree.proofs.picking.degree_one.Given as goal

abbrev pub invariant-loop-place : goal.invariant-loop-place
invariant-loop-place g l = Picks (λ x. degree l.grading x ≡ g.T.Scalar.integer l.denominator) (take l.place l.list) l.picked
