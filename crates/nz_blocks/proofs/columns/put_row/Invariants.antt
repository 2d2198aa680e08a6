use Rattle.std.proofs.Common.{◌≡◌, ◌++◌, take, get_or}
use Rattle.nz_blocks.specs.Columns.{cells, spaced}
use Rattle.nz_blocks.proofs.columns.put_row.Given as goal

abbrev pub invariant-loop-place : goal.invariant-loop-place
invariant-loop-place l = l.out ≡ l.initial.out ++ spaced (take l.place (cells (λ j. get_or l.widths j 0) 0 l.row))
