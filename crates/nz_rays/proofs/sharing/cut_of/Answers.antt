use Rattle.std.proofs.Common.{◌<◌, length, ◌∙◌, arith}
use Rattle.nz_rays.proofs.SharedLemmas.{cut_more, cut_skip, cut_all, place_below}
use Rattle.nz_rays.proofs.sharing.cut_of.Goals as goal
use Rattle.nz_rays.proofs.sharing.cut_of.Goals.{in-Some+in-Ok, in-None}

pub loop-index-preserved : goal.loop-index-preserved
loop-index-preserved c =
    let n = c.args.numbering.now in
    let within : c.loop-index.index < length c.args.set.now = omega (arith, c.loop-index-test.true, c.len-index-end.ensures) in
    let l = place_below c.args.set.now c.loop-index.index c.at.result (length n.numbers.items) within c.at.ensures c.requires.bound in
    elim c.match-index.branch [
      | in-Some+in-Ok w ↦ cut_more n.shared n.numbers.items c.args.set.now c.loop-index.cut _ c.loop-index.index c.at.result w.in-Some.number c.index.result.now c.requires.numbering c.requires.in_order within c.at.ensures l c.index.ensures w.in-Some.is c.loop-index.invariant (w.cut-is ∙ w.in-Ok.ensures.ok)
      | in-None w ↦ rw w.cut-is (cut_skip n.shared n.numbers.items c.args.set.now c.loop-index.cut c.loop-index.index c.at.result c.index.result.now c.requires.numbering within c.at.ensures l c.index.ensures w.in-None.is c.loop-index.invariant)
    ]

pub returns : goal.returns
returns c = cut_all c.args.numbering.now.shared c.args.set.now c.loop-index.cut c.loop-index.index (omega (arith, c.loop-index-test.false, c.len-index-end.ensures)) c.loop-index.invariant
