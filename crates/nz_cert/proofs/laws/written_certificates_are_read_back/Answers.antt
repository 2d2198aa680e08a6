use Rattle.nz_further.specs.CertificateTexts.{canonical}
use Rattle.nz_further.proofs.CanonicalText.{canonical_is_text}
use Rattle.nz_further.proofs.CertificateReading.{one_certificate}
use Rattle.nz_cert.proofs.laws.written_certificates_are_read_back.Goals as goal

pub returns : goal.returns
returns c = λ cert shape. (canonical_is_text cert shape, λ d t. one_certificate d cert (canonical cert) t (canonical_is_text cert shape))
