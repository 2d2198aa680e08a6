use Rattle.std.proofs.Common.{take}
use Rattle.std.specs.List.{AllByRecursion as Each}
use Rattle.nz_order.specs.Boxes.{NonNegative}
use Rattle.nz_cert.proofs.tables.are_not_negative.Given as goal

abbrev pub invariant-loop-place : goal.invariant-loop-place
invariant-loop-place g l = Each NonNegative (take l.place l.table)
