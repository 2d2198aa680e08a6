use Rattle.std.proofs.Common.{List, Contains, map, ap, ◌∙◌, subst}
use Rattle.nz_spec.specs.Vectors.{Vector, values_at}
use Rattle.nz_vec.specs.Sums.{HasValueOutside}
use Rattle.nz_units.proofs.CoordinateLemmas.{entry_large, sum_large, units_wide, columns_wide, taken}
use Rattle.nz_units.proofs.coordinates.taken_back.Goals as goal

pub all_values-requires : goal.all_values-requires
all_values-requires g c = units_wide c.args.width c.args.list.now c.in-Ok.forms c.requires.vectors c.in-Ok.ensures

pub returns-in-Err-all_values : goal.returns-in-Err-all_values
returns-in-Err-all_values g c = λ e. entry_large g.T.Scalar.HALF g.T.Scalar.fits g.met.T.Scalar.room c.args.width c.args.list.now c.requires.vectors (Contains c.args.coordinates.now)
    (subst (λ (us : List Vector). HasValueOutside g.T.Scalar.fits c.args.list.now us) c.in-Ok.ensures (c.in-Err-all_values.ensures e))

pub all_values-requires-2 : goal.all_values-requires-2
all_values-requires-2 g c = columns_wide c.args.list.now c.in-Ok.forms c.in-Ok-all_values.columns c.args.coordinates.now c.in-Ok-all_values.ensures c.requires.coordinates

pub returns-in-Ok-all_values-2 : goal.returns-in-Ok-all_values-2
returns-in-Ok-all_values-2 g c = c.in-Ok-all_values-2.ensures ∙ taken c.args.width c.args.list.now c.in-Ok.forms c.in-Ok-all_values.columns c.args.coordinates.now c.requires.vectors c.in-Ok.ensures c.in-Ok-all_values.ensures

pub returns : goal.returns
returns g c = λ e. sum_large g.T.Scalar.HALF g.T.Scalar.fits g.met.T.Scalar.room c.args.width c.args.list.now c.requires.vectors (Contains c.args.coordinates.now) c.args.coordinates.now (λ x k. k)
    (subst (λ (ts : List Vector). HasValueOutside g.T.Scalar.fits ts c.args.coordinates.now) (c.in-Ok-all_values.ensures ∙ ap (map (λ u. values_at c.args.list.now u)) c.in-Ok.ensures) (c.in-Err-all_values-2.ensures e))
