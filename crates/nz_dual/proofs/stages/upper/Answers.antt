use Rattle.std.proofs.Common.{◌∙◌}
use Rattle.nz_dual.proofs.StageLemmas.{if_ok_map}
use Rattle.nz_dual.proofs.stages.upper.Goals as goal

pub returns-in-Ok : goal.returns-in-Ok
returns-in-Ok g c = if_ok_map _ _ c.new.result (λ s h. (h.0 ∙ c.in-Ok.ensures, h.1)) c.new.ensures
