use Rattle.std.proofs.Common.{◌∷◌, []}
use Rattle.nz_input.specs.Files.{ItemData}
use Rattle.nz_system.specs.Meaning.{only_if}
use Rattle.nz_ideal.specs.IdealFiles.{vertex_item, unit_item, exponents, stays}
use Rattle.nz_ideal.proofs.Building.{given-more}
use Rattle.nz_ideal.proofs.files.ideal_items.Goals as goal

pub loop-place-preserved : goal.loop-place-preserved
loop-place-preserved c =
    given-more (λ (item : ItemData). only_if (stays item.kind) (item ∷ [])) c.args.items.now c.loop-place.place c.at.result.now (vertex_item (exponents c.args.items.now) ∷ unit_item c.args.amb ∷ []) c.loop-place.list c.push_staying.new.list c.at.ensures c.loop-place.invariant c.in_ok-push_staying.ensures
