use Rattle.std.proofs.Common.{ℤ, ◌++◌, get_or, ap, ◌∙◌, arith, rules}
use Rattle.std.proofs.Math.Facts.{to_z-of_z}
use Rattle.std.specs.Fmt.{signed_decimal}
use Rattle.nz_blocks.specs.Columns.{gap, right_aligned}
use Rattle.nz_blocks.proofs.Laying.{row_more, row_whole}
use Rattle.nz_blocks.proofs.columns.put_row.Goals as goal
use mir.Val.{SFits, to_z, of_z}
use Rattle.std.specs.Int.{w128}

pub loop-place-preserved : goal.loop-place-preserved
loop-place-preserved c =
    let fits : SFits w128 c.at.result = search rules in
    let number = to_z-of_z {w = w128} {z = c.at.result} fits in
    let given : ℤ = to_z w128 (of_z w128 c.at.result) in
    let width = ap (λ n. c.loop-place.out ++ (gap c.loop-place.place ++ right_aligned n (signed_decimal given))) c.width_at.ensures in
    let text = ap (λ z. c.loop-place.out ++ (gap c.loop-place.place ++ right_aligned (get_or c.args.widths.now c.loop-place.place 0) (signed_decimal z))) (number ∙ c.at.ensures) in
    row_more (λ j. get_or c.args.widths.now j 0) c.args.row.now c.loop-place.place c.args.out.now c.loop-place.out c.put_cell.new.out (omega (arith, c.len-place-end.ensures)) c.loop-place.invariant (c.in_ok-put_cell.ensures ∙ (width ∙ text))

pub returns : goal.returns
returns c = row_whole (λ j. get_or c.args.widths.now j 0) c.args.row.now c.loop-place.place c.args.out.now c.loop-place.out c.push.new.self c.push.result (omega (arith, c.len-place-end.ensures)) c.loop-place.invariant c.push.ensures.ok
