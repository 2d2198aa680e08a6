use Rattle.std.proofs.Common.{◌≡◌, ◌<◌, ◌^◌, length}
use Rattle.nz_further.specs.CertificateTexts.{Count}
use Rattle.nz_cert.proofs.ReadingLemmas.{AreParts, singly}
use Rattle.nz_cert.proofs.order.take_numbers.Given as goal

abbrev pub invariant-loop-index : goal.invariant-loop-index
invariant-loop-index l = record {
  many : length l.numbers ≡ l._index;
  parts : AreParts (λ n. n < 2 ^ 64) (singly Count) 0 l.initial.words l.words l.numbers;
}
