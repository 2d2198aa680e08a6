use Rattle.std.proofs.Common.{◌<◌, length, arith}
use Rattle.nz_frame.proofs.LatticeLemmas.{forms_none, forms_more, forms_all}
use Rattle.nz_frame.proofs.CutLemmas.{sweeps_start, sweeps_more, sweeps_all, cut_refused}
use Rattle.nz_frame.proofs.lattices.with_equations.Goals as goal

pub loop-place-init : goal.loop-place-init
loop-place-init g c = let f = forms_none c.args.base c.args.forms.now c.requires.base in (f.0, f.1, sweeps_start c.args.forms.now c.args.base)

pub loop-place-preserved : goal.loop-place-preserved
loop-place-preserved g c =
    let l : c.loop-place.place < length c.args.forms.now = omega (arith, c.loop-place-test.true, c.len-place-end.ensures) in
    let f = forms_more c.args.forms.now c.loop-place.place c.at.result.now c.args.base c.loop-place.base c.cut_equation.new.self l c.at.ensures c.in-Ok.ensures.width c.in-Ok.ensures.cut (c.loop-place.invariant.0, c.loop-place.invariant.1) in
    (f.0, f.1, sweeps_more c.args.forms.now c.loop-place.place c.at.result.now c.args.base c.loop-place.base c.cut_equation.new.self l c.at.ensures c.in-Ok.ensures.state c.loop-place.invariant.2)

pub returns-in-Err-clause-cause : goal.returns-in-Err-clause-cause
returns-in-Err-clause-cause g c = λ e.
    let l : c.loop-place.place < length c.args.forms.now = omega (arith, c.loop-place-test.true, c.len-place-end.ensures) in
    cut_refused g.T.Scalar.HALF c.args.forms.now c.loop-place.place c.at.result.now c.args.base c.loop-place.base l c.at.ensures c.loop-place.invariant.2 (c.in-Err.ensures.cause e)

pub returns-clause-cut : goal.returns-clause-cut
returns-clause-cut g c = forms_all c.args.forms.now c.loop-place.place c.args.base c.loop-place.base (omega (arith, c.loop-place-test.false, c.len-place-end.ensures)) c.loop-place.invariant.1

pub returns-clause-sweeps : goal.returns-clause-sweeps
returns-clause-sweeps g c = sweeps_all c.args.forms.now c.loop-place.place c.args.base c.loop-place.base (omega (arith, c.loop-place-test.false, c.len-place-end.ensures)) c.loop-place.invariant.2
