use Rattle.std.proofs.Common.{◌≡◌, take}
use Rattle.nz_spec.specs.Covers.{vectors_at}
use Rattle.nz_bench.proofs.measures.chosen.Given as goal

abbrev pub invariant-loop-index : goal.invariant-loop-index
invariant-loop-index l = l.forms ≡ take l.index (vectors_at l.rows l.places)
