use Rattle.nz_lift.proofs.LiftLemmas.{follows}
use Rattle.nz_lift.proofs.lifting.lifted_at.Goals as goal

pub returns-in-Some : goal.returns-in-Some
returns-in-Some g c = follows g.T.Scalar.HALF c.args.limit c.args.forms.now c.args.point.now c.in-Ok.opened (g.T.Scalar.integer c.in-Some.interval.low) (g.T.Scalar.integer c.in-Some.interval.high) c.in-Ok.ensures c.in-Some.ensures (λ l. l) c.args.list c.with_numbers.result c.with_numbers.ensures
