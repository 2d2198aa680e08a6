use Rattle.std.proofs.Common.{◌∙◌, ap}
use Rattle.std.specs.Prelude.{◌||◌}
use Rattle.nz_input.specs.Files.{ItemData}
use Rattle.nz_system.specs.Groups.{includes}
use Rattle.nz_system.proofs.Growing.{occurs-more}
use Rattle.nz_system.proofs.groups.occurs.Goals as goal

pub loop-place-preserved : goal.loop-place-preserved
loop-place-preserved c = c.found_by-found.ensures ∙ (ap (λ k. c.loop-place.found || includes c.args.group k) (ap (λ (i : ItemData). i.kind) c.behind-items.view_is)) ∙ occurs-more c.args.group c.args.items.now c.loop-place.place c.at.result.now c.loop-place.found c.at.ensures c.loop-place.invariant
