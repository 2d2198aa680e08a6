use Rattle.std.proofs.Common.{ℕ, ◌<◌, ◌≤◌, subst}
use Rattle.nz_dual.proofs.CrowdLemmas.{start_crowded}
use Rattle.nz_dual.proofs.StartFormLemmas.{primitive_simplex, forms_refused, walk_refused}
use Rattle.nz_dual.proofs.starting.candidates_of.Goals as goal

pub returns-in-Err : goal.returns-in-Err
returns-in-Err g c = forms_refused c.args.rows.now c.args.rays.now c.requires g.T.Scalar.HALF c.args.limit c.in-Err.refusal c.work_of.result c.in-Err.ensures c.work_of.ensures

pub walk-requires : goal.walk-requires
walk-requires g c = primitive_simplex c.args.rows.now c.args.rays.now c.in-Ok.forms c.requires c.in-Ok.ensures

pub returns-in-Err-walk : goal.returns-in-Err-walk
returns-in-Err-walk g c = walk_refused c.args.rows.now c.args.rays.now c.requires g.T.Scalar.HALF c.args.limit c.in-Ok.forms c.in-Ok.ensures c.in-Err-walk.refusal c.in-Err-walk.ensures

pub returns-in-Ok-within : goal.returns-in-Ok-within
returns-in-Ok-within g c = (
  record { points = c.in-Ok-walk.points; lists = c.in-Ok-walk.ensures.0; whole = c.in-Ok-joined.ensures },
  subst (λ (n : ℕ). n ≤ c.args.limit) c.len.ensures c.in-Ok-within.ensures,
)

pub returns : goal.returns
returns g c = start_crowded c.args.rows.now c.args.rays.now c.requires c.in-Ok-joined.candidates (record { points = c.in-Ok-walk.points; lists = c.in-Ok-walk.ensures.0; whole = c.in-Ok-joined.ensures }) g.T.Scalar.HALF c.args.limit c.in-Err-within.refusal
    (c.in-Err-within.ensures.0, subst (λ (n : ℕ). c.args.limit < n) c.len.ensures c.in-Err-within.ensures.1)
