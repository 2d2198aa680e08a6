use Rattle.std.proofs.Common.{◌≡◌, take, map}
use Rattle.nz_spec.specs.Vectors.{values_at}
use Rattle.nz_cert.proofs.tables.values_table.Given as goal

abbrev pub invariant-loop-place : goal.invariant-loop-place
invariant-loop-place g l = l.table ≡ map (values_at l.forms) (take l.place l.vectors)
