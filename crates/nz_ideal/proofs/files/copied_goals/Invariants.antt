use Rattle.std.proofs.Common.{◌≡◌, take}
use Rattle.nz_ideal.proofs.files.copied_goals.Given as goal

abbrev pub invariant-loop-place : goal.invariant-loop-place
invariant-loop-place l = l.list ≡ take l.place l.goals
