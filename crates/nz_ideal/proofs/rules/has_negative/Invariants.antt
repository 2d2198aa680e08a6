use Rattle.std.proofs.Common.{◌≡◌, drop}
use Rattle.nz_ideal.specs.IdealRules.{has_negative}
use Rattle.nz_ideal.proofs.rules.has_negative.Given as goal

abbrev pub invariant-loop-place : goal.invariant-loop-place
invariant-loop-place l = has_negative l.row ≡ has_negative (drop l.place l.row)
