use Rattle.std.proofs.Common.{sym, ap, ◌∙◌, arith}
use Rattle.std.specs.Prelude.{option_map}
use Rattle.nz_lift.specs.Ends.{Ends}
use Rattle.nz_range.proofs.Causes.{value_cause}
use Rattle.nz_lift.proofs.IntervalLemmas.{ends_at_place, interval_of, form_large, value_large}
use Rattle.nz_lift.proofs.intervals.interval_at.Goals as goal

pub returns-in-None : goal.returns-in-None
returns-in-None g c =
    let h = g.T.Scalar.HALF in
    form_large h c.args.forms.now c.loop-place.place c.at-form.result.now c.args.x.now (omega (arith, c.loop-place-test.true, c.len-place-end.ensures)) c.at-form.ensures
    (value_cause h g.T.Scalar.fits g.met.T.Scalar.room c.at-form.result.now c.args.x.now c.in-None.ensures)

pub returns-in-None-narrowed : goal.returns-in-None-narrowed
returns-in-None-narrowed g c = value_large g.T.Scalar.HALF c.args.forms.now c.loop-place.place c.at-form.result.now c.args.x.now (g.T.Scalar.integer c.in-Some.value) (omega (arith, c.loop-place-test.true, c.len-place-end.ensures)) c.at-form.ensures c.in-Some.ensures.1 c.in-None-narrowed.ensures

pub loop-place-preserved : goal.loop-place-preserved
loop-place-preserved g c = ends_at_place c.args.forms.now c.loop-place.place c.at-form.result.now c.args.x.now (g.T.Scalar.integer c.in-Some.value) (g.T.Scalar.integer c.last_entry.result) c.loop-place.ends c.in-Some-narrowed.ends (omega (arith, c.loop-place-test.true, c.len-place-end.ensures)) c.at-form.ensures c.in-Some.ensures.1 c.last_entry.ensures c.loop-place.invariant c.in-Some-narrowed.ensures

pub returns : goal.returns
returns g c =
    let Z = g.T.Scalar.integer in
    interval_of c.args.forms.now c.loop-place.place c.args.x.now c.loop-place.ends (Z c.in-Some-Some.low) (Z c.in-Some-Some.high) (omega (arith, c.loop-place-test.false, c.len-place-end.ensures))
    (ap (λ (e : Ends). e.least) (sym c.ends.view_is) ∙ ap (option_map Z) c.in-Some-Some.is-0)
    (ap (λ (e : Ends). e.greatest) (sym c.ends.view_is) ∙ ap (option_map Z) c.in-Some-Some.is-1)
    c.loop-place.invariant
