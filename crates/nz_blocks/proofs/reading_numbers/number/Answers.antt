use Rattle.nz_blocks.proofs.Readings.{unsigned_is, minus_is, opening_digit}
use Rattle.nz_blocks.proofs.reading_numbers.number.Goals as goal

pub returns-then-is_at-clause-whole : goal.returns-then-is_at-clause-whole
returns-then-is_at-clause-whole c = λ z s fits bare e.
    let m = minus_is z c.args.text.now c.args.from s fits c.if-is_at.ensures e in
    c.sized.ensures.whole z m.0 s fits m.1 m.2 bare m.3

pub returns-else-is_at-clause-whole : goal.returns-else-is_at-clause-whole
returns-else-is_at-clause-whole c = λ z s fits bare e.
    let m = unsigned_is z _ s fits c.if-is_at.ensures e in
    c.sized-else-is_at.ensures.whole z m.0 s fits m.1 m.2 bare m.3

pub returns-else-is_at-clause-forward : goal.returns-else-is_at-clause-forward
returns-else-is_at-clause-forward c = λ f. c.sized-else-is_at.ensures.some (opening_digit _ f c.if-is_at.ensures)
