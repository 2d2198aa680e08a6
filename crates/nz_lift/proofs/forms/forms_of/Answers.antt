use Rattle.nz_lift.specs.Directions.{fronts}
use Rattle.nz_lift.proofs.DirectionLemmas.{fronts_wide, equation_large}
use Rattle.nz_lift.proofs.forms.forms_of.Goals as goal

pub describe-requires : goal.describe-requires
describe-requires g c = fronts_wide c.args.size c.args.vectors.now c.in-Ok.fronts c.requires c.in-Ok.ensures

pub returns : goal.returns
returns g c = λ e.
    equation_large g.T.Scalar.HALF c.args.size (fronts c.args.size c.args.vectors.now) c.in-Ok.fronts c.in-Ok-describe.description.equations (fronts_wide c.args.size c.args.vectors.now c.in-Ok.fronts c.requires c.in-Ok.ensures) c.in-Ok.ensures
    c.in-Ok-describe.ensures.0.equation_forms (c.in-Err-with_both_signs.ensures.cause e)
