use Rattle.std.proofs.Common.{◌∙◌, sym, ap, arith}
use Rattle.nz_further.specs.Certificates.{CertificateData, last_of}
use Rattle.nz_cert.proofs.OrderingLemmas.{last_at}
use Rattle.nz_cert.proofs.ordering.last_list.Goals as goal

pub returns-else-stages-eq0 : goal.returns-else-stages-eq0
returns-else-stages-eq0 c =
    let n = c.len-stages.ensures in
    let some = c.if-stages-eq0.false in
    c.at.ensures ∙ sym (last_at c.cert.inside.first c.cert.inside.plus _ (omega (arith, n, some))) ∙ ap (λ (d : CertificateData). last_of d.first d.above) c.cert.view_is
