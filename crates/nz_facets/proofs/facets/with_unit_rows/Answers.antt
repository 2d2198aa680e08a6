use Rattle.nz_linear.specs.Echelon.{unit_at}
use Rattle.nz_facets.proofs.RowLemmas.{unit_small, two_more}
use Rattle.nz_facets.proofs.facets.with_unit_rows.Goals as goal

pub returns-in-Err-opposite : goal.returns-in-Err-opposite
returns-in-Err-opposite g c = λ e. unit_small g.T.Scalar.HALF g.T.Scalar.fits c.args.width c.args.column c.in-Ok.row g.met.T.Scalar.room c.in-Ok.ensures (c.in-Err-opposite.ensures e)

pub returns-in-Ok-push-2 : goal.returns-in-Ok-push-2
returns-in-Ok-push-2 g c = two_more c.args.rows c.push.new.self c.push-2.new.self c.in-Ok.row c.in-Ok-opposite.other (unit_at c.args.width c.args.column) c.in-Ok.ensures c.in-Ok-opposite.ensures c.in-Ok-push.ensures.ok c.in-Ok-push-2.ensures.ok
