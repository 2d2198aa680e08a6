use Rattle.std.proofs.Common.{List, ℤ, [], ◌∷◌, ◌++◌, ap, ◌∙◌}
use Rattle.nz_dual.proofs.SumLemmas.{sum_is, sum_large}
use Rattle.nz_dual.proofs.sums.add_sum.Goals as goal

pub returns-in-Err : goal.returns-in-Err
returns-in-Err g c = λ e. sum_large g.T.Scalar.HALF g.T.Scalar.fits g.met.T.Scalar.room _ c.args.x.now c.args.y.now c.of_i64-one.ensures (c.in-Err.ensures e)

pub returns-in-Ok-push : goal.returns-in-Ok-push
returns-in-Ok-push g c = c.in-Ok-push.ensures.ok ∙ ap (λ (v : List ℤ). c.args.sums.now ++ v ∷ []) (c.in-Ok.ensures ∙ sum_is _ c.args.x.now c.args.y.now c.of_i64-one.ensures)
