use Rattle.std.proofs.Common.{inl, inr, refl}
use Rattle.nz_sweep.proofs.NumberLemmas.{some_map, less_zero_large}
use Rattle.nz_sweep.proofs.terms.has_value.Goals as goal

pub returns-in-None : goal.returns-in-None
returns-in-None g c =
    let Z = g.T.Scalar.integer in
    λ _. record { number = Z c.args.value; is_number = inl refl; large = less_zero_large _ _ g.met.T.Scalar.room (Z c.args.value) (Z c.of_i64.result) c.of_i64.ensures c.in-None.ensures }

pub returns-in-Err : goal.returns-in-Err
returns-in-Err g c = λ e. some_map _ (λ n k. inr k) (c.in-Err.ensures.cause e)
