use Rattle.std.proofs.Common.{pos}
use Rattle.nz_input.specs.Files.{ItemData}
use Rattle.nz_further.specs.Ideals.{at_level}
use Rattle.nz_ideal.specs.IdealFiles.{exponents_in}
use Rattle.nz_ideal.proofs.Building.{mapped-given-more}
use Rattle.nz_ideal.proofs.files.vertices.Goals as goal

pub loop-place-preserved : goal.loop-place-preserved
loop-place-preserved c =
    mapped-given-more (at_level (pos 1)) (λ (item : ItemData). exponents_in item.kind item.rows) c.args.items.now c.loop-place.place c.at.result.now c.loop-place.vertices c.push_exponents.new.vertices c.at.ensures c.loop-place.invariant c.in_ok-push_exponents.ensures
