use Rattle.std.proofs.Common.{refl}
use Rattle.nz_rays.proofs.SharedLemmas.{numbered_more}
use Rattle.nz_rays.proofs.sharing.numbering_of.Goals as goal

pub loop-place-preserved : goal.loop-place-preserved
loop-place-preserved c = numbered_more c.args.first.now c.args.second.now c.loop-place.place c.loop-place.shared c.put_if.new.shared c.loop-place.numbers.items c.push.new.self.items c.in-Ok.number _ _ c.are_both-chosen.result c.loop-place.invariant c.in-Ok.ensures.put c.in-Ok.ensures.chosen c.are_both-chosen.ensures refl refl c.in-Ok-push.ensures.items
