use Rattle.std.proofs.Common.{◌++◌, ap, ◌∙◌, arith, rules}
use Rattle.std.proofs.Math.Facts.{to_z-of_z}
use Rattle.std.specs.Fmt.{signed_decimal}
use Rattle.nz_blocks.specs.Columns.{gap}
use Rattle.nz_blocks.proofs.Laying.{entries_more}
use Rattle.nz_blocks.proofs.asked_lines.put_entries.Goals as goal
use mir.Val.{SFits}
use Rattle.std.specs.Int.{w128}

pub loop-place-preserved : goal.loop-place-preserved
loop-place-preserved c =
    let fits : SFits w128 c.at.result = search rules in
    let number = to_z-of_z {w = w128} {z = c.at.result} fits in
    let text = ap (λ z. c.loop-place.out ++ (gap c.loop-place.place ++ signed_decimal z)) (number ∙ c.at.ensures) in
    entries_more c.args.row.now c.loop-place.place c.args.out.now c.loop-place.out c.put_entry.new.out (omega (arith, c.len-place-end.ensures)) c.loop-place.invariant (c.in_ok-put_entry.ensures ∙ text)
