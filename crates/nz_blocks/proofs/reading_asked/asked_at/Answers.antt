use Rattle.std.proofs.Common.{◌∷◌}
use Rattle.nz_blocks.specs.Outcomes.{at_level}
use Rattle.nz_blocks.proofs.RowReadings.{behind_byte, has_byte}
use Rattle.nz_blocks.proofs.AnswerTexts.{colon_shut}
use Rattle.nz_blocks.proofs.AskedReadings.{behind_vector, line_start, both_are}
use Rattle.nz_blocks.proofs.reading_asked.asked_at.Goals as goal

pub returns-in-Err : goal.returns-in-Err
returns-in-Err c = λ level a s is e. c.in-Err.ensures (λ i. 0) a.0 (58 ∷ behind_vector level a s) is.held.vector (colon_shut (behind_vector level a s)) (line_start _ level a s e)

pub returns-then-not-is_at : goal.returns-then-not-is_at
returns-then-not-is_at c = λ level a s is e.
    let vector = c.in-Ok.ensures (λ i. 0) a.0 (58 ∷ behind_vector level a s) is.held.vector (colon_shut (behind_vector level a s)) (line_start _ level a s e) in
    absurd (has_byte _ (behind_vector level a s) 58 vector.1 c.if-not-is_at.ensures)

pub returns-in-Ok-reply : goal.returns-in-Ok-reply
returns-in-Ok-reply c = λ level a s is e.
    let vector = c.in-Ok.ensures (λ i. 0) a.0 (58 ∷ behind_vector level a s) is.held.vector (colon_shut (behind_vector level a s)) (line_start _ level a s e) in
    let reply = c.in-Ok-reply.ensures (at_level level a.0) a.1 s is.held.reply is.shown (behind_byte c.args.text.now c.in-Ok.vector.next 58 (behind_vector level a s) vector.1) in
    (both_are c.in-Ok.vector.value c.in-Ok-reply.reply.value a vector.0 reply.0, reply.1)

pub returns-in-Err-reply : goal.returns-in-Err-reply
returns-in-Err-reply c = λ level a s is e.
    let vector = c.in-Ok.ensures (λ i. 0) a.0 (58 ∷ behind_vector level a s) is.held.vector (colon_shut (behind_vector level a s)) (line_start _ level a s e) in
    c.in-Err-reply.ensures (at_level level a.0) a.1 s is.held.reply is.shown (behind_byte c.args.text.now c.in-Ok.vector.next 58 (behind_vector level a s) vector.1)
