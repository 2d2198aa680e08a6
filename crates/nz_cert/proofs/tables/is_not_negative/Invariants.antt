use Rattle.std.proofs.Common.{take}
use Rattle.nz_order.specs.Boxes.{NonNegative}
use Rattle.nz_cert.proofs.tables.is_not_negative.Given as goal

abbrev pub invariant-loop-column : goal.invariant-loop-column
invariant-loop-column g l = NonNegative (take l.column l.values)
