use Rattle.nz_dual.proofs.CrowdLemmas.{start_within, list_within}
use Rattle.nz_dual.proofs.FirstStageLemmas as first
use Rattle.nz_dual.proofs.StartFormLemmas.{reducing_refused}
use Rattle.nz_dual.proofs.starting.first_list.Goals as goal

pub irreducibles-requires : goal.irreducibles-requires
irreducibles-requires g c = first.separated c.args.rows.now c.args.rays.now c.requires c.in-Ok.candidates c.in-Ok.ensures.0

pub returns-in-Ok-irreducibles : goal.returns-in-Ok-irreducibles
returns-in-Ok-irreducibles g c = (
  first.first_list c.args.rows.now c.args.rays.now c.requires c.in-Ok.candidates c.in-Ok.ensures.0 c.in-Ok-irreducibles.list c.in-Ok-irreducibles.ensures,
  list_within c.args.rows.now c.args.rays.now c.requires c.in-Ok.candidates c.in-Ok.ensures.0 c.args.limit c.in-Ok-irreducibles.list c.in-Ok-irreducibles.ensures c.in-Ok.ensures.1,
  start_within c.args.rows.now c.args.rays.now c.requires c.in-Ok.candidates c.in-Ok.ensures.0 c.args.limit c.in-Ok.ensures.1,
)

pub returns : goal.returns
returns g c = reducing_refused c.args.rows.now c.args.rays.now c.requires g.T.Scalar.HALF g.T.Scalar.fits g.met.T.Scalar.room c.args.limit c.in-Ok.candidates c.in-Ok.ensures.0 c.in-Err-irreducibles.refusal c.work_of.result c.in-Err-irreducibles.ensures c.work_of.ensures
