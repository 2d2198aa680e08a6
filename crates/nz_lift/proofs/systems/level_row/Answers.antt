use Rattle.std.proofs.Common.{length, ◌-◌, ap, sym, ◌∙◌}
use Rattle.nz_lift.proofs.SystemLemmas.{unit_wide}
use Rattle.nz_lift.proofs.systems.level_row.Goals as goal

pub pull-requires : goal.pull-requires
pull-requires g c = ap length c.in-Ok.ensures ∙ unit_wide c.args.width (c.args.width - 1) ∙ sym c.requires.width
