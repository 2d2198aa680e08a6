use Rattle.std.proofs.Common.{◌<◌, ℕ, [], length, take, sym, ap, ◌∙◌, arith}
use Rattle.nz_spec.specs.Vectors.{HasWidth}
use Rattle.nz_spec.proofs.SumLaws.{length-combination}
use Rattle.nz_spec.proofs.ListLaws.{each_at}
use Rattle.nz_linear.specs.Echelon.{unit_at}
use Rattle.nz_classes.proofs.EntryLemmas.{combination_none, combination_end, sum_more, sum_outside}
use Rattle.nz_classes.proofs.WalkLemmas.{unit_past}
use Rattle.nz_classes.proofs.steps.sum_of_sides.Goals as goal

pub loop-place-init : goal.loop-place-init
loop-place-init g c =
    let w = length c.args.sides.now in
    c.in-Ok.ensures ∙ ap (λ (n : ℕ). unit_at n n) c.len.ensures ∙ unit_past w ∙ sym (combination_none w c.args.factors.now c.args.sides.now)

pub combine-requires : goal.combine-requires
combine-requires g c =
    let w = length c.args.sides.now in
    let l : c.loop-place.place < w = omega (arith, c.len-place-end.ensures) in
    ap length c.loop-place.invariant ∙ length-combination w (take c.loop-place.place c.args.factors.now) c.args.sides.now c.requires.wide ∙ sym (ap length c.at-in-loop-place.ensures ∙ each_at (HasWidth w) c.args.sides.now c.loop-place.place [] c.requires.wide l)

pub returns-in-Err-combine : goal.returns-in-Err-combine
returns-in-Err-combine g c = λ h.
    let w = length c.args.sides.now in
    let l : c.loop-place.place < w = omega (arith, c.len-place-end.ensures) in
    sum_outside g.T.Scalar.fits w c.args.factors.now c.args.sides.now c.loop-place.place c.loop-place.sum c.at-in-loop-place.result.now _ _ l c.loop-place.invariant c.of_i64-one.ensures c.at.ensures c.at-in-loop-place.ensures (c.in-Err-combine.ensures h)

pub loop-place-preserved : goal.loop-place-preserved
loop-place-preserved g c =
    let w = length c.args.sides.now in
    let l : c.loop-place.place < w = omega (arith, c.len-place-end.ensures) in
    sum_more w c.args.factors.now c.args.sides.now c.loop-place.place c.loop-place.sum c.in-Ok-combine.more c.at-in-loop-place.result.now _ _ c.requires.one_each c.requires.wide l c.loop-place.invariant c.in-Ok-combine.ensures c.of_i64-one.ensures c.at.ensures c.at-in-loop-place.ensures

pub returns : goal.returns
returns g c =
    let w = length c.args.sides.now in
    c.loop-place.invariant ∙ combination_end w c.args.factors.now c.args.sides.now c.loop-place.place (omega (arith, c.len-place-end.ensures, c.loop-place-test.false, c.requires.one_each))
