use Rattle.std.proofs.Common.{◌∙◌, subst, sym, arith}
use Rattle.nz_blocks.specs.Beginnings.{BeginsBlock}
use Rattle.nz_blocks.proofs.RowTexts.{heading_split}
use Rattle.nz_blocks.proofs.Readings.{some_none}
use Rattle.nz_blocks.proofs.RowReadings.{behind_byte, byte_split}
use Rattle.nz_blocks.proofs.reading_blocks.heading_at.Goals as goal

pub returns-in-None-clause-found : goal.returns-in-None-clause-found
returns-in-None-clause-found c = λ n s few w e.
    c.in-None.ensures.found n s few w (behind_byte c.args.text.now c.args.from 10 _ (e ∙ heading_split n c.args.heading.now s))

pub returns-then-count-le18446744073709551615-clause-found : goal.returns-then-count-le18446744073709551615-clause-found
returns-then-count-le18446744073709551615-clause-found c = λ n s few w e.
    c.in-Some.ensures.found n s few w (behind_byte c.args.text.now c.args.from 10 _ (e ∙ heading_split n c.args.heading.now s))

pub returns-then-count-le18446744073709551615-clause-absent : goal.returns-then-count-le18446744073709551615-clause-absent
returns-then-count-le18446744073709551615-clause-absent c = λ none.
    let line = byte_split c.args.text.now c.args.from 10 c.if-not-is_at.ensures in
    absurd (some_none _ (c.in-Some.ensures.absent (λ b. none (subst (BeginsBlock c.args.heading.now) (sym line) b))))

pub returns-clause-found : goal.returns-clause-found
returns-clause-found c = λ n s few w e.
    let f = c.in-Some.ensures.found n s few w (behind_byte c.args.text.now c.args.from 10 _ (e ∙ heading_split n c.args.heading.now s)) in
    absurd (omega (arith, few, f.0, c.if-count-le18446744073709551615.false))
