use Rattle.std.proofs.Common.{◌≡◌, ◌++◌, suc, take}
use Rattle.nz_further.specs.CertificateTexts.{stage_lines}
use Rattle.nz_cert.proofs.writing.put_stages.Given as goal

abbrev pub invariant-loop-place : goal.invariant-loop-place
invariant-loop-place l = l.out ≡ l.initial.out ++ stage_lines (suc l.rank) (take l.place l.plus) (take l.place l.minus)
