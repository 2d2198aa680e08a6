use Rattle.std.proofs.Common.{◌<◌, ℕ, [], length, sym, ap, ◌∙◌, subst, arith}
use Rattle.std.specs.List.{AllByRecursion as Each}
use Rattle.nz_spec.specs.Vectors.{HasWidth, values_at}
use Rattle.nz_spec.proofs.ListLaws.{each_at}
use Rattle.nz_classes.proofs.EntryLemmas.{row_more, row_end, outside_among}
use Rattle.nz_classes.proofs.values.values_of_all.Goals as goal

pub values_at-requires : goal.values_at-requires
values_at-requires g c =
    let l : c.loop-place.place < length c.args.vectors.now = omega (arith, c.len-place-end.ensures) in
    let e = ap length c.at.ensures ∙ each_at (HasWidth (length c.args.forms.now)) c.args.vectors.now c.loop-place.place [] c.requires.vectors_wide l in
    subst (λ (n : ℕ). Each (HasWidth n) c.args.forms.now) (sym e) c.requires.forms_wide

pub returns-in-Err : goal.returns-in-Err
returns-in-Err g c = λ h.
    let l : c.loop-place.place < length c.args.vectors.now = omega (arith, c.len-place-end.ensures) in
    outside_among g.T.Scalar.fits c.args.forms.now c.args.vectors.now c.loop-place.place c.at.result.now l c.at.ensures (c.in-Err.ensures h)

pub loop-place-preserved : goal.loop-place-preserved
loop-place-preserved g c =
    let l : c.loop-place.place < length c.args.vectors.now = omega (arith, c.len-place-end.ensures) in
    row_more (values_at c.args.forms.now) c.args.vectors.now c.loop-place.place [] c.loop-place.all c.in-Ok.values c.push.new.self l c.loop-place.invariant (c.in-Ok.ensures ∙ ap (values_at c.args.forms.now) c.at.ensures) c.in-Ok-push.ensures.ok

pub returns : goal.returns
returns g c = row_end (values_at c.args.forms.now) c.args.vectors.now c.loop-place.place c.loop-place.all (omega (arith, c.len-place-end.ensures, c.loop-place-test.false)) c.loop-place.invariant
