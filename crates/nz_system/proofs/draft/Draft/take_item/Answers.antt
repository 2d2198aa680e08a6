use Rattle.std.proofs.Common.{arith}
use Rattle.nz_system.proofs.Drafting.{item-taken}
use Rattle.nz_system.proofs.draft.Draft.take_item.Goals as goal

pub loop-place-preserved : goal.loop-place-preserved
loop-place-preserved c =
    item-taken c.args.level c.args.item.now c.item.inside.kind c.item.inside.rows c.loop-place.place c.at.result.now c.args.self.now c.loop-place.self c.take_row.new.self c.item.view_is (omega (arith, c.len-place-end.ensures)) c.at.ensures c.loop-place.invariant c.in_ok-take_row.ensures
