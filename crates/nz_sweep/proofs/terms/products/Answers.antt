use Rattle.std.proofs.Common.{◌≡◌, ◌∙◌, ◌*ℤ◌, ◌+ℤ◌, map, take, sym, ap, subst, arith}
use Rattle.std.proofs.lemmas.List.{take_all}
use Rattle.nz_spec.specs.Vectors.{Vector, dot, entry}
use Rattle.nz_sweep.proofs.TermLemmas.{terms_none, dot_more}
use Rattle.nz_sweep.proofs.NumberLemmas.{term_large}
use Rattle.nz_sweep.proofs.terms.products.Goals as goal

pub loop-place-init : goal.loop-place-init
loop-place-init g c = terms_none g.T.Scalar.fits _ _ (ap (map g.T.Scalar.integer) c.new.ensures.items) (ap (map g.T.Scalar.integer) c.new-2.ensures.items)

pub loop-place-preserved : goal.loop-place-preserved
loop-place-preserved g c =
    let Z = g.T.Scalar.integer in
    let f = c.args.form.now in
    let x = c.args.x.now in
    let i = c.loop-place.place in
    let p : Z c.in-Some.product ≡ entry f i *ℤ entry x i = c.in-Some.ensures.1 ∙ ap (λ u. u *ℤ Z c.at-in-loop-place.result) c.at.ensures ∙ ap (λ u. entry f i *ℤ u) c.at-in-loop-place.ensures in
    (c.in-Ok.ensures.terms, c.in-Ok.ensures.sum ∙ ap (λ s. s +ℤ Z c.in-Some.product) c.loop-place.invariant.1 ∙ ap (λ u. dot (take i f) (take i x) +ℤ u) p ∙ sym (dot_more f x i (omega (arith, c.loop-place-test.true, c.len-place-end.ensures)) c.requires))

pub with_term-requires-clause-fits : goal.with_term-requires-clause-fits
with_term-requires-clause-fits g c = subst g.T.Scalar.fits (sym c.in-Some.ensures.1) c.in-Some.ensures.0

pub returns : goal.returns
returns g c =
    let f = c.args.form.now in
    let x = c.args.x.now in
    let i = c.loop-place.place in
    record {
      terms = c.loop-place.invariant.0;
      sum = c.loop-place.invariant.1 ∙ ap (λ (t : Vector). dot t (take i x)) (take_all i f (omega (arith, c.loop-place-test.false, c.len-place-end.ensures))) ∙ ap (dot f) (take_all i x (omega (arith, c.loop-place-test.false, c.len-place-end.ensures, c.requires)));
      cause = tt;
    }

pub returns-in-None-clause-cause : goal.returns-in-None-clause-cause
returns-in-None-clause-cause g c =
    let Z = g.T.Scalar.integer in
    λ _. term_large _ _ g.met.T.Scalar.room c.args.form.now c.args.x.now c.loop-place.place (Z c.at.result) (Z c.at-in-loop-place.result) (omega (arith, c.loop-place-test.true, c.len-place-end.ensures)) c.requires c.at.ensures c.at-in-loop-place.ensures c.in-None.ensures
