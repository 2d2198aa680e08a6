use Rattle.std.proofs.Common.{inr}
use Rattle.nz_range.proofs.Causes.{value_cause}
use Rattle.nz_sweep.proofs.CutCauses.{value_cause_of}
use Rattle.nz_sweep.proofs.valued.with_remainder.Goals as goal

pub returns-in-None : goal.returns-in-None
returns-in-None g c = λ _. inr (value_cause _ _ g.met.T.Scalar.room c.args.form.now c.args.row.now c.in-None.ensures)

pub returns-in-None-remainder : goal.returns-in-None-remainder
returns-in-None-remainder g c = λ _. value_cause_of g.T.Scalar.HALF c.args.form.now c.args.row.now (g.T.Scalar.integer c.in-Some.value) (g.T.Scalar.integer c.args.modulus) c.in-Some.ensures.1 c.in-None-remainder.ensures
