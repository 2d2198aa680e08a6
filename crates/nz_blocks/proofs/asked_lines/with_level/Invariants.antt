use Rattle.std.proofs.Common.{◌≡◌, take}
use Rattle.nz_blocks.proofs.asked_lines.with_level.Given as goal

abbrev pub invariant-loop-place : goal.invariant-loop-place
invariant-loop-place l = l.entries.items ≡ take l.place l.x
