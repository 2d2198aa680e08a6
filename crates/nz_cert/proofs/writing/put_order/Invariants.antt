use Rattle.std.proofs.Common.{◌≡◌, ◌++◌, take, map, decimal}
use Rattle.nz_further.specs.CertificateTexts.{spaced}
use Rattle.nz_cert.proofs.writing.put_order.Given as goal

abbrev pub invariant-loop-index : goal.invariant-loop-index
invariant-loop-index l = l.out ≡ l.initial.out ++ spaced (map decimal (take l.index l.order))
