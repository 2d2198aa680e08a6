use Rattle.std.proofs.Common.{◌<◌, [], length, ◌∙◌, arith}
use Rattle.std.proofs.lemmas.List.{get_or_default}
use Rattle.nz_pointed.proofs.ListLemmas.{zip_more}
use Rattle.nz_rays.specs.Shared.{IsCutTo}
use Rattle.nz_rays.proofs.sharing.cuts_of.Goals as goal

pub loop-place-preserved : goal.loop-place-preserved
loop-place-preserved c =
    let within : c.loop-place.place < length c.args.sets.now = omega (arith, c.loop-place-test.true, c.len-place-end.ensures) in
    zip_more (IsCutTo c.args.numbering.now.shared) c.args.sets.now c.loop-place.cuts _ c.loop-place.place c.at.result.now c.in-Ok.cut within (c.at.ensures ∙ get_or_default c.args.sets.now c.loop-place.place [] c.at.result.now within) c.loop-place.invariant c.in-Ok.ensures c.in-Ok-push.ensures.ok
