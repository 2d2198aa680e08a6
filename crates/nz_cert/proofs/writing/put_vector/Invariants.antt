use Rattle.std.proofs.Common.{◌≡◌, ◌++◌, take, map}
use Rattle.std.specs.Fmt.{signed_decimal}
use Rattle.nz_cert.proofs.WritingLemmas.{joined}
use Rattle.nz_cert.proofs.writing.put_vector.Given as goal

abbrev pub invariant-loop-column : goal.invariant-loop-column
invariant-loop-column l = l.out ≡ l.initial.out ++ joined (map signed_decimal (take l.column l.vector))
