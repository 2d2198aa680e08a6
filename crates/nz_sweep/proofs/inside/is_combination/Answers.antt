use Rattle.std.proofs.Common.{◌≡◌, ◌∙◌, sym, ap, arith, below_more}
use Rattle.std.proofs.lemmas.Bool.{MatchBool-at_true, MatchBool-at_false}
use Rattle.nz_spec.specs.Vectors.{Vector, combination, dot, entry}
use Rattle.nz_spec.proofs.SumLaws.{length-combination}
use Rattle.nz_sweep.proofs.BaseLemmas.{entry-combination}
use Rattle.nz_sweep.proofs.InsideLemmas.{same_entries}
use Rattle.nz_sweep.proofs.NumberLemmas.{column_large}
use Rattle.nz_sweep.proofs.inside.is_combination.Goals as goal

pub returns-in-Ok-false : goal.returns-in-Ok-false
returns-in-Ok-false g c =
    let w = c.args.width in
    let vs = c.args.base.now in
    let ks = c.args.factors.now in
    let i = c.loop-place.place in
    let here : entry (combination w ks vs) i ≡ dot ks c.in-Ok.column = entry-combination w ks vs i c.requires.widths ∙ ap (dot ks) (sym c.in-Ok.ensures) in
    λ e. MatchBool-at_false (dot c.args.factors.now c.in-Ok.column ≡ g.T.Scalar.integer c.at.result) (¬ (dot c.args.factors.now c.in-Ok.column ≡ g.T.Scalar.integer c.at.result)) c.in-Ok-false.field-0-test c.in-Ok-false.ensures (sym here ∙ ap (λ (t : Vector). entry t i) e ∙ sym c.at.ensures)

pub loop-place-preserved : goal.loop-place-preserved
loop-place-preserved g c =
    let w = c.args.width in
    let vs = c.args.base.now in
    let ks = c.args.factors.now in
    let i = c.loop-place.place in
    let here : entry (combination w ks vs) i ≡ dot ks c.in-Ok.column = entry-combination w ks vs i c.requires.widths ∙ ap (dot ks) (sym c.in-Ok.ensures) in
    below_more _ _ c.loop-place.invariant (here ∙ MatchBool-at_true (dot c.args.factors.now c.in-Ok.column ≡ g.T.Scalar.integer c.at.result) (¬ (dot c.args.factors.now c.in-Ok.column ≡ g.T.Scalar.integer c.at.result)) c.in-Ok-true.field-0-test c.in-Ok-true.ensures ∙ c.at.ensures)

pub returns : goal.returns
returns g c =
    let n = length-combination c.args.width c.args.factors.now c.args.base.now c.requires.widths in
    same_entries (combination c.args.width c.args.factors.now c.args.base.now) c.args.x.now (n ∙ sym c.requires.x) (λ k l. c.loop-place.invariant k (omega (arith, l, n, c.loop-place-test.false)))

pub returns-in-Err-has_value : goal.returns-in-Err-has_value
returns-in-Err-has_value g c = λ e. column_large _ c.args.width c.loop-place.place c.args.base.now c.args.x.now c.args.factors.now c.in-Ok.column (g.T.Scalar.integer c.at.result) c.requires.widths c.requires.x c.loop-place-test.true c.at.ensures c.in-Ok.ensures (c.in-Err-has_value.ensures e)
