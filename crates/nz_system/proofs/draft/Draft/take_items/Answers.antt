use Rattle.std.specs.List.{flat_map}
use Rattle.nz_input.specs.Files.{ItemData}
use Rattle.nz_system.specs.Contributions.{contributions}
use Rattle.nz_system.proofs.Drafting.{taken-more}
use Rattle.nz_system.proofs.draft.Draft.take_items.Goals as goal

pub loop-place-preserved : goal.loop-place-preserved
loop-place-preserved c =
    taken-more (λ (item : ItemData). flat_map (contributions c.args.level item.kind) item.rows) c.args.items.now c.loop-place.place c.at.result.now c.args.self.now c.loop-place.self c.take_item.new.self c.at.ensures c.loop-place.invariant c.in_ok-take_item.ensures
