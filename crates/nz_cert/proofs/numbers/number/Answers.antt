use Rattle.nz_cert.proofs.NumberLemmas.{too_large}
use Rattle.nz_cert.proofs.numbers.number.Goals as goal

pub returns-in-None-clause-whole : goal.returns-in-None-clause-whole
returns-in-None-clause-whole c = λ n small w. absurd (too_large c.args.word.now c.loop-byte.byte-index c.loop-byte.total n c.loop-byte-test.true c.loop-byte.invariant c.in-None.ensures small w)
