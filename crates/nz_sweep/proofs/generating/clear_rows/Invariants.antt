use Rattle.std.proofs.Common.{length}
use Rattle.std.specs.Prelude.{unsigned_abs}
use Rattle.std.specs.List.{AllByRecursion as Each}
use Rattle.nz_spec.specs.Vectors.{HasWidth, entry}
use Rattle.nz_sweep.specs.Clearing.{vectors_of, values_of, IsPivot, AreRounds}
use Rattle.nz_sweep.proofs.generating.clear_rows.Given as goal

abbrev pub invariant-rounds : goal.invariant-rounds
invariant-rounds g l = AreRounds l.fn.list.items l.list.items × IsPivot (values_of l.list.items) (length l.list.items) l.place × Each (HasWidth l.width) (vectors_of l.list.items)

abbrev pub decreases-rounds : goal.decreases-rounds
decreases-rounds g l = unsigned_abs (entry (values_of l.list.items) l.place)
