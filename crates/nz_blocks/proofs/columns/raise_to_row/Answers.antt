use Rattle.std.proofs.Common.{◌<◌, length, arith, ap, ◌∙◌, rules}
use Rattle.std.proofs.Math.Facts.{to_z-of_z}
use Rattle.std.specs.Fmt.{signed_decimal}
use Rattle.nz_blocks.specs.Columns.{width_at_only}
use Rattle.nz_blocks.proofs.Laying.{row_width_more}
use Rattle.nz_blocks.proofs.columns.raise_to_row.Goals as goal
use mir.Val.{SFits}
use Rattle.std.specs.Int.{w128}

pub loop-column-preserved : goal.loop-column-preserved
loop-column-preserved c = λ j.
    let l : c.loop-column.column < length c.args.row.now = omega (arith, c.len-column-end.ensures) in
    let fits : SFits w128 c.at.result = search rules in
    let number = to_z-of_z {w = w128} {z = c.at.result} fits in
    let width = ap (λ n. width_at_only c.loop-column.column n j) (c.text_length.ensures ∙ ap (λ z. length (signed_decimal z)) (number ∙ c.at.ensures)) in
    let more = row_width_more c.args.row.now c.loop-column.column j l in
    let now = c.raise.ensures j in
    let before = c.loop-column.invariant j in
    omega (arith, width, more, now, before)
