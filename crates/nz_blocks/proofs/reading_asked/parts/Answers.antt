use Rattle.std.proofs.Common.{ap₂}
use Rattle.nz_member.specs.declared.reply.Reply.TheVariants.{Parts}
use Rattle.nz_blocks.proofs.RowReadings.{behind_byte}
use Rattle.nz_blocks.proofs.reading_asked.parts.Goals as goal

pub returns-then-is_at : goal.returns-then-is_at
returns-then-is_at c = λ m cs s size held sign few e.
    let found = c.in-Ok.ensures cs m s size held sign e in
    let place = c.in-Some.ensures m s few found.1 in
    (ap₂ Parts place.0 found.0, behind_byte c.args.text.now c.in-Some.module.next 10 s place.1)
