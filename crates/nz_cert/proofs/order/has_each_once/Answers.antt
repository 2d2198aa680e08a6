use Rattle.std.proofs.Common.{length, arith}
use Rattle.nz_cert.proofs.OrderLemmas.{marks_next, marks_stop, marks_all}
use Rattle.nz_cert.proofs.order.has_each_once.Goals as goal

pub returns-then-not-mark : goal.returns-then-not-mark
returns-then-not-mark c =
    let t = c.loop-index-test.true in
    let e = c.len-index-end.ensures in
    marks_stop (length c.args.places.now) c.at.result c.loop-index.index c.args.places.now c.loop-index.marks.items (omega (arith, t, e)) c.at.ensures c.loop-index.invariant c.if-not-mark.ensures

pub loop-index-preserved : goal.loop-index-preserved
loop-index-preserved c =
    let t = c.loop-index-test.true in
    let e = c.len-index-end.ensures in
    let m = c.if-not-mark.ensures in
    marks_next (length c.args.places.now) c.at.result c.loop-index.index c.args.places.now c.loop-index.marks.items c.mark.new.marks.items (omega (arith, t, e)) c.at.ensures c.loop-index.invariant m.0 m.1

pub returns : goal.returns
returns c =
    let t = c.loop-index-test.false in
    let e = c.len-index-end.ensures in
    marks_all (length c.args.places.now) c.loop-index.index c.args.places.now c.loop-index.marks.items (omega (arith, t, e)) c.loop-index.invariant
