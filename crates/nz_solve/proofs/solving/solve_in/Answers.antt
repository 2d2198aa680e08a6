use Rattle.std.proofs.Common.{inl, refl}
use Rattle.nz_watch.proofs.TellingLemmas.{none_told}
use Rattle.nz_solve.proofs.RangeLemmas.{reckon_refused, own_reach}
use Rattle.nz_solve.proofs.NarrowLemmas.{number_above}
use Rattle.nz_solve.proofs.solving.solve_in.Goals as goal

pub returns-in-Err-clause-outcome : goal.returns-in-Err-clause-outcome
returns-in-Err-clause-outcome g c =
    let s = c.args.system.now in
    reckon_refused s.mode s.system g.T.Scalar.HALF c.args.limit c.args.told_before c.args.told_before _ _ (inl (refl, none_told _)) c.in-Err.refusal c.counted.result
    (λ e. own_reach s.mode s.system g.T.Scalar.HALF (number_above g.T.Scalar.HALF g.T.Scalar.fits g.met.T.Scalar.room s.system c.requires.system (c.in-Err.ensures.cause e)))
    c.counted.ensures
