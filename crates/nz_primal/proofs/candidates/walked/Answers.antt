use Rattle.std.proofs.Common.{unsigned_abs}
use Rattle.nz_spec.specs.Covers.{vectors_at}
use Rattle.nz_primal.proofs.RangeLemmas.{walk_where}
use Rattle.nz_primal.proofs.candidates.walked.Goals as goal

pub returns-clause-cause : goal.returns-clause-cause
returns-clause-cause g c = walk_where (unsigned_abs g.T.Scalar.HALF) c.args.limit c.in-Ok.sides (vectors_at c.args.rays.now c.args.places.now) c.args.forms.now c.in-Err-walk.refusal c.in-Ok.ensures c.in-Err-walk.ensures
