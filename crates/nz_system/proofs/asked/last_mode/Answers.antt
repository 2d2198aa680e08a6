use Rattle.std.proofs.Common.{◌∙◌, ap}
use Rattle.nz_system.specs.Asked.{or_else}
use Rattle.nz_system.proofs.Asking.{mode-more}
use Rattle.nz_system.proofs.asked.last_mode.Goals as goal

pub loop-place-preserved : goal.loop-place-preserved
loop-place-preserved c = mode-more c.args.goals.now c.loop-place.place c.at.result c.loop-place.mode c.or_else-mode.result c.at.ensures c.loop-place.invariant (c.or_else-mode.ensures ∙ ap (λ m. or_else m c.loop-place.mode) c.mode_of.ensures)
