use Rattle.std.proofs.Common.{◌∙◌, ◌∷◌, [], append_assoc}
use Rattle.nz_blocks.specs.Columns.{cells, spaced, column_width}
use Rattle.nz_blocks.proofs.RowTexts.{newline_shut}
use Rattle.nz_blocks.proofs.RowReadings.{behind_byte}
use Rattle.nz_blocks.proofs.reading_rows.row.Goals as goal

pub returns-then-is_at : goal.returns-then-is_at
returns-then-is_at c = λ rows r s held e.
    let found = c.in-Ok.ensures (column_width rows) r (10 ∷ s) held (newline_shut s) (e ∙ append_assoc (spaced (cells (column_width rows) 0 r)) (10 ∷ []) s) in
    (found.0, behind_byte c.args.text.now c.in-Ok.entries.next 10 s found.1)
