use Rattle.std.proofs.Common.{take}
use Rattle.std.specs.List.{AllByRecursion as Each}
use Rattle.nz_order.specs.Boxes.{NonNegative}
use Rattle.nz_further.specs.Certificates.{IsReducedOver}
use Rattle.nz_cert.proofs.tables.are_reduced.Given as goal

abbrev pub invariant-loop-place : goal.invariant-loop-place
invariant-loop-place l = Each (IsReducedOver NonNegative l.table) (take l.place l.all)
