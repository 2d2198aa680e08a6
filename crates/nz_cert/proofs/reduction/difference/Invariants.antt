use Rattle.std.proofs.Common.{◌≡◌, take}
use Rattle.nz_spec.specs.Vectors.{minus}
use Rattle.nz_cert.proofs.reduction.difference.Given as goal

abbrev pub invariant-loop-column : goal.invariant-loop-column
invariant-loop-column l = l.entries.items ≡ minus (take l.column l.values) (take l.column l.entry)
