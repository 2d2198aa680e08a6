use Rattle.std.proofs.Common.{take}
use Rattle.nz_order.specs.Boxes.{IsBelow}
use Rattle.nz_cert.proofs.reduction.is_below.Given as goal

abbrev pub invariant-loop-column : goal.invariant-loop-column
invariant-loop-column g l = IsBelow (take l.column l.low) (take l.column l.high)
