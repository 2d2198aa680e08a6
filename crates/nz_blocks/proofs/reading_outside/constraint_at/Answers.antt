use Rattle.nz_blocks.proofs.OutsideReadings.{not_at_least}
use Rattle.nz_blocks.proofs.reading_outside.constraint_at.Goals as goal

pub returns-in-None : goal.returns-in-None
returns-in-None c = λ k s held form e. c.equal_at.ensures k s held form (not_at_least _ c.as_slice.result.now k s c.as_slice.ensures e c.in-None.ensures) e
