use Rattle.std.proofs.Common.{◌++◌, ◌∙◌, ap, arith}
use Rattle.nz_further.specs.CertificateTexts.{vector_line}
use Rattle.nz_cert.proofs.WritingLemmas.{lines_more}
use Rattle.nz_cert.proofs.writing.put_vectors.Goals as goal

pub loop-place-preserved : goal.loop-place-preserved
loop-place-preserved c =
    let put = c.in_ok-put_vector.ensures ∙ ap (λ v. c.loop-place.out ++ vector_line v) c.at.ensures in
    lines_more c.args.vectors.now c.loop-place.place c.args.out.now c.loop-place.out c.put_vector.new.out (omega (arith, c.loop-place-test.true, c.len-place-end.ensures)) c.loop-place.invariant put
