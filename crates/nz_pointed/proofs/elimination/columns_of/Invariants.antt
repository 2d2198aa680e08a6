use Rattle.std.proofs.Common.{take}
use Rattle.std.specs.List.{AllZip}
use Rattle.nz_linear.specs.Echelon.{EndsAt}
use Rattle.nz_pointed.proofs.elimination.columns_of.Given as goal

abbrev pub invariant-loop-place : goal.invariant-loop-place
invariant-loop-place g l = AllZip (λ x k. EndsAt k x) (take l.place l.left) l.columns
