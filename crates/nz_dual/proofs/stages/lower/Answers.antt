use Rattle.std.proofs.Common.{◌∙◌}
use Rattle.nz_dual.proofs.stages.lower.Goals as goal

pub returns-in-Ok-new : goal.returns-in-Ok-new
returns-in-Ok-new g c = (c.in-Ok-new.ensures.0 ∙ c.in-Ok.ensures, c.in-Ok-new.ensures.1)
