use Rattle.std.proofs.Common.{◌<◌, ◌++◌, [], List, ℕ, length, arith, ap, ◌∙◌, get_or}
use Rattle.nz_spec.specs.Vectors.{Vector}
use Rattle.nz_vec.specs.Texts.{Text}
use Rattle.nz_blocks.specs.Columns.{column_width, cells, spaced}
use Rattle.nz_blocks.specs.Lines.{line}
use Rattle.nz_blocks.specs.Output.{row_text}
use Rattle.nz_blocks.proofs.Laying.{rows_more, cells_same}
use Rattle.nz_blocks.proofs.columns.put_rows.Goals as goal

pub loop-place-preserved : goal.loop-place-preserved
loop-place-preserved c =
    let l : c.loop-place.place < length c.args.rows.now = omega (arith, c.len-place-end.ensures) in
    let row = get_or c.args.rows.now c.loop-place.place [] in
    let same = cells_same (λ j. get_or c.in_ok-widths.widths.items j 0) (column_width c.args.rows.now) 0 row c.in_ok-widths.ensures in
    rows_more (row_text c.args.rows.now) c.args.rows.now c.loop-place.place [] c.args.out.now c.loop-place.out c.put_row.new.out l c.loop-place.invariant
    (c.in_ok-put_row.ensures
    ∙ ap (λ (ws : List ℕ). c.loop-place.out ++ line (spaced (cells (λ j. get_or ws j 0) 0 c.at.result.now))) c.deref.ensures.value
    ∙ ap (λ (r : Vector). c.loop-place.out ++ line (spaced (cells (λ j. get_or c.in_ok-widths.widths.items j 0) 0 r))) c.at.ensures
    ∙ ap (λ (cs : List Text). c.loop-place.out ++ line (spaced cs)) same)
