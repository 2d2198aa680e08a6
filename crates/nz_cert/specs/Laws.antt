-- The law of texts of certificates.
use Rattle.std.specs.Prelude.{◌≡◌}
use Rattle.nz_further.specs.Certificates.{CertificateData, HasShape}
use Rattle.nz_further.specs.CertificateTexts.{IsTextOf, canonical}

-- what is written of a certificate is a text of it, and what is read of that text is the same certificate
abbrev pub WrittenIsRead : Type 0
WrittenIsRead = (c : CertificateData) → HasShape c → IsTextOf c (canonical c) × ((d : CertificateData) → IsTextOf d (canonical c) → d ≡ c)
