use Rattle.std.proofs.Common.{◌≡◌, ◌∙◌, ℤ, ap, subst, drop, MatchResult}
use Rattle.nz_vec.specs.Conditions.{condition_of}
use Rattle.nz_member.specs.declared.reply.Reply.{Reply}
use Rattle.nz_member.specs.declared.reply.Reply.TheVariants.{Outside}
use Rattle.nz_blocks.specs.declared.refusal.BlockRefusal.TheVariants.{NoMemory}
use Rattle.nz_blocks.proofs.AnswerTexts.{constraint_same}
use Rattle.nz_blocks.proofs.AskedReadings.{in_parts, in_outside}
use Rattle.nz_blocks.proofs.reading_asked.reply.Goals as goal

pub returns-in-Some : goal.returns-in-Some
returns-in-Some c = λ x r s held shown e.
    let there = in_parts _ c.as_slice.result.now _ c.args.size x r s held shown c.as_slice.ensures e c.in-Some.ensures in
    subst (λ (q : Reply ℤ). MatchResult c.parts.result (λ f. (f.value ≡ q) × (drop f.next c.args.text.now ≡ s)) (λ e. e ≡ NoMemory)) there.named
    (c.parts.ensures there.place there.counts s there.size there.held there.not_negative there.few there.is)

pub returns-in-Ok : goal.returns-in-Ok
returns-in-Ok c = λ x r s held shown e.
    let there = in_outside _ c.as_slice.result.now c.args.size x r s held shown c.as_slice.ensures e c.in-None.ensures in
    let found = c.in-Ok.ensures x (condition_of (λ z. z) there.constraint) s there.held there.fits there.is in
    (ap Outside (constraint_same c.in-Ok.found.value there.constraint found.0) ∙ there.named, found.1)

pub returns-in-Err : goal.returns-in-Err
returns-in-Err c = λ x r s held shown e.
    let there = in_outside _ c.as_slice.result.now c.args.size x r s held shown c.as_slice.ensures e c.in-None.ensures in
    c.in-Err.ensures x (condition_of (λ z. z) there.constraint) s there.held there.fits there.is
