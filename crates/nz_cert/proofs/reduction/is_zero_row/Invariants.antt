use Rattle.std.proofs.Common.{take}
use Rattle.nz_spec.specs.Vectors.{IsZero}
use Rattle.nz_cert.proofs.reduction.is_zero_row.Given as goal

abbrev pub invariant-loop-column : goal.invariant-loop-column
invariant-loop-column g l = IsZero (take l.column l.values)
