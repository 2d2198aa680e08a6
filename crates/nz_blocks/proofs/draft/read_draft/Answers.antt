use Rattle.std.proofs.Common.{◌∙◌, refl, arith}
use Rattle.nz_blocks.specs.Output.{asked_block}
use Rattle.nz_blocks.specs.Sections.{lists_of}
use Rattle.nz_blocks.proofs.OneOutcome.{text_sections, blocks_bare, held_lists, few_rows}
use Rattle.nz_blocks.proofs.DraftReadings.{below_head, sections_there, none_there, readable_list}
use Rattle.nz_blocks.proofs.draft.read_draft.Goals as goal

pub returns-in-Err-clause-whole : goal.returns-in-Err-clause-whole
returns-in-Err-clause-whole c = λ o is held e.
    let top = c.in-Some.ensures o.amb o.level o.denominator (below_head o.level o) is.at_most held.denominator (blocks_bare o) (e ∙ text_sections o) in
    c.in-Err.ensures (lists_of o) (asked_block o.level o.asked) (held_lists o is held) refl (none_there o c.in-Some.head.value.level held) (sections_there _ o c.in-Some.head.value.level top.1 top.3)

pub returns-in-Err-asked_at_end-clause-whole : goal.returns-in-Err-asked_at_end-clause-whole
returns-in-Err-asked_at_end-clause-whole c = λ o is held e.
    let top = c.in-Some.ensures o.amb o.level o.denominator (below_head o.level o) is.at_most held.denominator (blocks_bare o) (e ∙ text_sections o) in
    let lists = c.in-Ok.ensures (lists_of o) (asked_block o.level o.asked) (held_lists o is held) refl (none_there o c.in-Some.head.value.level held) (sections_there _ o c.in-Some.head.value.level top.1 top.3) in
    c.in-Err-asked_at_end.ensures o.level o.asked (readable_list o c.hilbert_size-size.result o.asked (c.hilbert_size-size.ensures o (c.as_slice.ensures.value ∙ lists.0)) (few_rows o.modules held.modules) is.asked held.asked) lists.1

pub returns-clause-whole : goal.returns-clause-whole
returns-clause-whole c = λ o is held e.
    let top = c.in-Some.ensures o.amb o.level o.denominator (below_head o.level o) is.at_most held.denominator (blocks_bare o) (e ∙ text_sections o) in
    let lists = c.in-Ok.ensures (lists_of o) (asked_block o.level o.asked) (held_lists o is held) refl (none_there o c.in-Some.head.value.level held) (sections_there _ o c.in-Some.head.value.level top.1 top.3) in
    let asked = c.in-Ok-asked_at_end.ensures o.level o.asked (readable_list o c.hilbert_size-size.result o.asked (c.hilbert_size-size.ensures o (c.as_slice.ensures.value ∙ lists.0)) (few_rows o.modules held.modules) is.asked held.asked) lists.1 in
    c.draft_of.ensures.whole o is.simplices (omega (arith, top.0, is.at_most)) top.1 top.2 lists.0 asked

pub returns-in-None-clause-whole : goal.returns-in-None-clause-whole
returns-in-None-clause-whole c = λ o is held e. absurd (c.in-None.ensures o.amb o.level o.denominator (below_head o.level o) is.at_most held.denominator (blocks_bare o) (e ∙ text_sections o))

pub returns-then-head-gt64-clause-whole : goal.returns-then-head-gt64-clause-whole
returns-then-head-gt64-clause-whole c = λ o is held e.
    let top = c.in-Some.ensures o.amb o.level o.denominator (below_head o.level o) is.at_most held.denominator (blocks_bare o) (e ∙ text_sections o) in
    absurd (omega (arith, top.0, is.at_most, c.if-head-gt64.true))
