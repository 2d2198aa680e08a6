use Rattle.std.proofs.Common.{◌≡◌, ◌++◌, take, map}
use Rattle.std.specs.Fmt.{signed_decimal}
use Rattle.nz_blocks.specs.Columns.{spaced}
use Rattle.nz_blocks.proofs.asked_lines.put_entries.Given as goal

abbrev pub invariant-loop-place : goal.invariant-loop-place
invariant-loop-place l = l.out ≡ l.initial.out ++ spaced (take l.place (map signed_decimal l.row))
