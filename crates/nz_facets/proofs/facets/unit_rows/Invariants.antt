use Rattle.std.proofs.Common.{◌≡◌, [], take}
use Rattle.nz_linear.specs.Facets.{facet_rows}
use Rattle.nz_facets.proofs.facets.unit_rows.Given as goal

abbrev pub invariant-loop-index : goal.invariant-loop-index
invariant-loop-index g l = l.rows ≡ facet_rows l.width (take l.index l.columns) []
