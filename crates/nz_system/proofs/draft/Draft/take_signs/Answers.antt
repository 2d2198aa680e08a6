use Rattle.nz_system.proofs.Drafting.{sign-taken}
use Rattle.nz_system.proofs.draft.Draft.take_signs.Goals as goal

pub loop-place-preserved : goal.loop-place-preserved
loop-place-preserved c = sign-taken c.args.row.now c.args.behind.now c.loop-place.place c.args.self.now c.loop-place.self c.take_sign.new.self c.loop-place.invariant c.in_ok-take_sign.ensures
