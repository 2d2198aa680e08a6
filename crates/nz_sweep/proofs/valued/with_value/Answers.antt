use Rattle.nz_range.proofs.Causes.{value_cause}
use Rattle.nz_sweep.proofs.valued.with_value.Goals as goal

pub returns-in-None : goal.returns-in-None
returns-in-None g c = λ _. value_cause _ _ g.met.T.Scalar.room c.args.form.now c.args.row.now c.in-None.ensures
