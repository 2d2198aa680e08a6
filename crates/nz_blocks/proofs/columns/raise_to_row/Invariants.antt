use Rattle.std.proofs.Common.{◌≡◌, ℕ, [], max, map, take, get_or, length}
use Rattle.std.specs.Fmt.{signed_decimal}
use Rattle.nz_blocks.proofs.columns.raise_to_row.Given as goal

abbrev pub invariant-loop-column : goal.invariant-loop-column
invariant-loop-column l = (j : ℕ) → get_or l.widths j 0 ≡ max (get_or l.initial.widths j 0) (length (get_or (map signed_decimal (take l.column l.row)) j []))
