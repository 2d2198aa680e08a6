use Rattle.std.proofs.Common.{◌+◌, ◌++◌, ◌∙◌, [], ap, arith, get_or}
use Rattle.nz_cert.specs.Written.{sides_lines}
use Rattle.nz_cert.proofs.WritingLemmas.{stages_more}
use Rattle.nz_cert.proofs.writing.put_stages.Goals as goal

pub loop-place-preserved : goal.loop-place-preserved
loop-place-preserved c =
    let k = c.loop-place.place in
    let number = c.args.rank + k + 1 in
    let put = c.in_ok-put_sides.ensures ∙ ap (λ a. c.loop-place.out ++ sides_lines number a c.at-in-loop-place.result.now) c.at.ensures
    ∙ ap (λ b. c.loop-place.out ++ sides_lines number (get_or c.args.plus.now k []) b) c.at-in-loop-place.ensures in
    stages_more c.args.rank number k c.args.plus.now c.args.minus.now c.args.out.now c.loop-place.out c.put_sides.new.out (omega (arith, c.loop-place-test.true, c.len-place-end.ensures)) c.requires.same (omega arith) c.loop-place.invariant put
