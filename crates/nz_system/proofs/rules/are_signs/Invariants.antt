use Rattle.std.proofs.Common.{◌≡◌, drop}
use Rattle.nz_system.specs.Rules.{are_signs}
use Rattle.nz_system.proofs.rules.are_signs.Given as goal

abbrev pub invariant-loop-place : goal.invariant-loop-place
invariant-loop-place l = are_signs l.row ≡ are_signs (drop l.place l.row)
