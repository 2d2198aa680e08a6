use Rattle.std.proofs.Common.{◌≡◌, ℕ, take, get_or}
use Rattle.nz_blocks.specs.Columns.{column_width}
use Rattle.nz_blocks.proofs.columns.widths_of.Given as goal

abbrev pub invariant-loop-place : goal.invariant-loop-place
invariant-loop-place l = (j : ℕ) → get_or l.widths.items j 0 ≡ column_width (take l.place l.rows) j
