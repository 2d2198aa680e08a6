use Rattle.std.proofs.Common.{◌≡◌, ◌++◌, take}
use Rattle.std.specs.List.{flat_map}
use Rattle.nz_blocks.specs.AskedLines.{asked_line}
use Rattle.nz_blocks.proofs.asked_lines.put_asked_lines.Given as goal

abbrev pub invariant-loop-place : goal.invariant-loop-place
invariant-loop-place l = l.out ≡ l.initial.out ++ flat_map (asked_line l.level) (take l.place l.asked)
