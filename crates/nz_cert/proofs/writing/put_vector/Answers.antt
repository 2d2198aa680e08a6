use Rattle.std.proofs.Common.{◌++◌, ◌∙◌, ap, arith, rules}
use Rattle.std.proofs.Math.Facts.{to_z-of_z}
use Rattle.std.specs.Fmt.{signed_decimal}
use Rattle.std.specs.Int.{w128}
use Rattle.nz_cert.specs.Written.{gap}
use Rattle.nz_cert.proofs.WritingLemmas.{entry_more}
use Rattle.nz_cert.proofs.writing.put_vector.Goals as goal
use mir.Val.{SFits}

pub loop-column-preserved : goal.loop-column-preserved
loop-column-preserved c =
    let fits : SFits w128 c.at.result = search rules in
    let number = to_z-of_z {w = w128} {z = c.at.result} fits in
    let put = c.in_ok-put_entry.ensures ∙ ap (λ z. c.loop-column.out ++ (gap c.loop-column.column ++ signed_decimal z)) (number ∙ c.at.ensures) in
    entry_more c.args.vector.now c.loop-column.column c.args.out.now c.loop-column.out c.put_entry.new.out (omega (arith, c.loop-column-test.true, c.len-column-end.ensures)) c.loop-column.invariant put
