use Rattle.std.proofs.Common.{◌≡◌, ◌++◌, take}
use Rattle.nz_further.specs.CertificateTexts.{vector_lines}
use Rattle.nz_cert.proofs.writing.put_vectors.Given as goal

abbrev pub invariant-loop-place : goal.invariant-loop-place
invariant-loop-place l = l.out ≡ l.initial.out ++ vector_lines (take l.place l.vectors)
