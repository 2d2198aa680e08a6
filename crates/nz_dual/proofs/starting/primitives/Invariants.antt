use Rattle.std.proofs.Common.{take}
use Rattle.std.specs.List.{AllZip}
use Rattle.nz_vec.specs.Primitives.{IsPrimitivePart}
use Rattle.nz_dual.proofs.starting.primitives.Given as goal

abbrev pub invariant-loop-place : goal.invariant-loop-place
invariant-loop-place g l = AllZip IsPrimitivePart (take l.place l.rows) l.forms
