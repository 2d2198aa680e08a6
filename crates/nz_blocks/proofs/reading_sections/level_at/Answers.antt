use Rattle.nz_blocks.proofs.SectionReadings.{no_line}
use Rattle.nz_blocks.proofs.reading_sections.level_at.Goals as goal

pub returns-in-None-behind : goal.returns-in-None-behind
returns-in-None-behind c = λ level s e. no_line _ level s c.as_slice.result.now c.as_slice-in-None.result.now c.as_slice.ensures c.as_slice-in-None.ensures e c.in-None.ensures c.in-None-behind.ensures
