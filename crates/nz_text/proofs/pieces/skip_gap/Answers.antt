use Rattle.std.proofs.Common.{◌∙◌, sym}
use Rattle.nz_text.proofs.Gaps.{skip-nil}
use Rattle.nz_text.proofs.Spots.{skip-end, drop-all}
use Rattle.nz_text.proofs.pieces.skip_gap.Goals as goal

pub returns-in-Outside : goal.returns-in-Outside
returns-in-Outside c =
    let all = drop-all c.args.text.now c.loop-at.at c.loop-at-test.false in
    (c.loop-at.invariant.within, sym c.loop-at.invariant.same ∙ rw (c.in-Outside.is, all) skip-nil)

pub returns-in_default : goal.returns-in_default
returns-in_default c =
    let all = drop-all c.args.text.now c.loop-at.at c.loop-at-test.false in
    (c.loop-at.invariant.within, sym c.loop-at.invariant.same ∙ rw all (skip-end c.loop-at.mode c.in_default.not-Outside))
