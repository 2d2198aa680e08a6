use Rattle.std.proofs.Common.{◌∷◌}
use Rattle.nz_blocks.proofs.Readings.{reads_is}
use Rattle.nz_blocks.proofs.RowReadings.{behind_byte, has_byte}
use Rattle.nz_blocks.proofs.AnswerReadings.{newline_no_digit}
use Rattle.nz_blocks.proofs.reading_blocks.number_line.Goals as goal

pub returns-in-None : goal.returns-in-None
returns-in-None c = λ z s fits e. c.in-None.ensures.whole z (10 ∷ s) fits (newline_no_digit s) e

pub returns-then-is_at : goal.returns-then-is_at
returns-then-is_at c = λ z s fits e.
    let found = c.in-Some.ensures.whole z (10 ∷ s) fits (newline_no_digit s) e in
    (reads_is _ z fits found.0, behind_byte c.args.text.now c.in-Some.found.next 10 s found.1)

pub returns : goal.returns
returns c = λ z s fits e.
    let found = c.in-Some.ensures.whole z (10 ∷ s) fits (newline_no_digit s) e in
    has_byte _ s 10 found.1 c.if-is_at.ensures
