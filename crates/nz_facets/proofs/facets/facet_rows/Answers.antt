use Rattle.nz_facets.proofs.RowLemmas.{gens_joined}
use Rattle.nz_facets.proofs.facets.facet_rows.Goals as goal

pub returns-in-Ok-joined : goal.returns-in-Ok-joined
returns-in-Ok-joined g c = gens_joined c.args.width c.args.columns.now c.args.gens.now c.in-Ok.rows c.in-Ok-joined.all c.in-Ok.ensures c.in-Ok-joined.ensures
