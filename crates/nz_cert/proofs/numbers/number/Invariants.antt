use Rattle.std.proofs.Common.{drop}
use Rattle.nz_cert.proofs.NumberLemmas.{AreDigitsFrom}
use Rattle.nz_cert.proofs.numbers.number.Given as goal

abbrev pub invariant-loop-byte : goal.invariant-loop-byte
invariant-loop-byte l = AreDigitsFrom l.word (drop l.byte-index l.word) l.total
