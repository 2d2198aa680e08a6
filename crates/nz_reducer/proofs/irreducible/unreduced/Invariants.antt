use Rattle.std.proofs.Common.{◌≡◌, map, take, length}
use Rattle.nz_spec.specs.Vectors.{values_at}
use Rattle.nz_reducer.proofs.Reducing.{Kept}
use Rattle.nz_reducer.proofs.irreducible.unreduced.Given as goal

abbrev pub invariant-loop-candidate : goal.invariant-loop-candidate
invariant-loop-candidate g l = record {
  kept : Kept l.rows (take l.candidate-index (map (λ c. map g.T.Scalar.integer c.entries.items) l.candidate-items)) (map (λ v. map g.T.Scalar.integer v.items) l.kept.items);
  table : l.table.rows ≡ map (values_at l.rows) (map (λ v. map g.T.Scalar.integer v.items) l.kept.items);
  columns : l.table.columns ≡ length l.rows;
}
