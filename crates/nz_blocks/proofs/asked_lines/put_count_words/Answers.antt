use Rattle.std.proofs.Common.{◌++◌, ◌+◌, ap, ◌∙◌, arith, rules}
use Rattle.std.proofs.Math.Facts.{to_z-of_z}
use Rattle.nz_blocks.specs.AskedLines.{count_word}
use Rattle.nz_blocks.proofs.Laying.{counts_more}
use Rattle.nz_blocks.proofs.asked_lines.put_count_words.Goals as goal
use mir.Val.{SFits}
use Rattle.std.specs.Int.{w128}

pub loop-place-preserved : goal.loop-place-preserved
loop-place-preserved c =
    let fits : SFits w128 c.at.result = search rules in
    let number = to_z-of_z {w = w128} {z = c.at.result} fits in
    let text = ap (λ z. c.loop-place.out ++ count_word (c.loop-place.place + 1) z) (number ∙ c.at.ensures) in
    counts_more c.args.counts.now c.loop-place.place c.args.out.now c.loop-place.out c.put_count_word.new.out (omega (arith, c.len-place-end.ensures)) c.loop-place.invariant (c.in_ok-put_count_word.ensures ∙ text)
