use Rattle.std.proofs.Common.{◌++◌, ◌∷◌, [], ◌∙◌, ap, decimal, arith}
use Rattle.nz_further.specs.CertificateTexts.{spaced}
use Rattle.nz_cert.proofs.WritingLemmas.{order_more}
use Rattle.nz_cert.proofs.writing.put_order.Goals as goal

pub loop-index-preserved : goal.loop-index-preserved
loop-index-preserved c =
    let put = c.in_ok-put_count.ensures ∙ ap (λ n. c.loop-index.out ++ spaced (decimal n ∷ [])) c.at.ensures in
    order_more c.args.order.now c.loop-index.index c.push_all.new.self c.loop-index.out c.put_count.new.out (omega (arith, c.loop-index-test.true, c.len-index-end.ensures)) c.loop-index.invariant put
