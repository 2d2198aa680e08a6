use Rattle.std.proofs.Common.{subst}
use Rattle.nz_blocks.specs.Beginnings.{IsLarge}
use Rattle.nz_blocks.proofs.Readings.{not_large, run_is, by_size, reads_as, none_some}
use Rattle.nz_blocks.proofs.reading_numbers.sized.Goals as goal

pub returns-in-None-clause-whole : goal.returns-in-None-clause-whole
returns-in-None-clause-whole c = λ z n s fits is few bare e. not_large n s few bare (subst IsLarge e c.in-None.ensures.run)

pub returns-in-Some-signed-clause-whole : goal.returns-in-Some-signed-clause-whole
returns-in-Some-signed-clause-whole c = λ z n s fits is few bare e.
    let r = run_is c.args.text.now c.args.from c.in-Some.size.next c.in-Some.size.value n s few bare e c.in-Some.ensures.run in
    let same = c.in-Some-signed.ensures z fits (by_size z c.args.negative n c.in-Some.size.value is r.0) in
    (reads_as c.in-Some-signed.value z fits same, r.1)

pub returns-in-None-signed-clause-whole : goal.returns-in-None-signed-clause-whole
returns-in-None-signed-clause-whole c = λ z n s fits is few bare e.
    let r = run_is c.args.text.now c.args.from c.in-Some.size.next c.in-Some.size.value n s few bare e c.in-Some.ensures.run in
    let same = c.in-None-signed.ensures z fits (by_size z c.args.negative n c.in-Some.size.value is r.0) in
    none_some z same
