use Rattle.std.proofs.Common.{◌≡◌, length}
use Rattle.nz_further.specs.Certificates.{IsHeldNumber}
use Rattle.nz_further.specs.CertificateTexts.{Entry}
use Rattle.nz_cert.proofs.ReadingLemmas.{AreParts, singly}
use Rattle.nz_cert.proofs.fields.take_vector.Given as goal

abbrev pub invariant-loop-column : goal.invariant-loop-column
invariant-loop-column l = record {
  many : length l.entries.items ≡ l._column;
  parts : AreParts IsHeldNumber (singly Entry) 0 l.initial.words l.words l.entries.items;
}
