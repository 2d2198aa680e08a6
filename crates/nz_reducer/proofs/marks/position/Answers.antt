use Rattle.nz_reducer.proofs.MarkLemmas.{some_position, front_position}
use Rattle.nz_reducer.proofs.marks.position.Goals as goal

pub returns-in-Some : goal.returns-in-Some
returns-in-Some g c = some_position g.T.Scalar.integer (λ m. m.sum) c.args.marks.now c.args.sum c.in-Some.field-0 c.reach.result c.in-Some.is c.reach.ensures

pub returns-in-None : goal.returns-in-None
returns-in-None g c = front_position g.T.Scalar.integer (λ m. m.sum) c.args.marks.now c.args.sum c.in-None.is
