use Rattle.std.proofs.Common.{refl, map, ap}
use Rattle.nz_vec.proofs.DivisorLemmas.{primitive_quotients, primitive_same, at_most_one}
use Rattle.nz_vec.proofs.entries.divided.Goals as goal

pub returns-then-is_above_one : goal.returns-then-is_above_one
returns-then-is_above_one g c = primitive_quotients (λ q. map g.T.Scalar.integer q.items) c.quotients.result _ (g.T.Scalar.integer c.args.gcd) (c.if-is_above_one.ensures.0 refl) c.requires c.quotients.ensures

pub returns-in-Ok : goal.returns-in-Ok
returns-in-Ok g c = primitive_same _ _ (g.T.Scalar.integer c.args.gcd) (at_most_one _ (λ h. cc (c.if-is_above_one.ensures.1 h))) c.requires (ap (map g.T.Scalar.integer) c.in-Ok.ensures.items)
