use Rattle.std.proofs.Common.{◌<◌, ◌++◌, length, map, ap, ◌∙◌, arith}
use Rattle.std.proofs.lemmas.List.{take_all}
use Rattle.nz_spec.specs.Vectors.{Vector}
use Rattle.nz_classes.specs.Steps.{products}
use Rattle.nz_classes.proofs.EntryLemmas.{length-products, product_more, product_outside, product_is, products_none}
use Rattle.nz_classes.proofs.neighbours.push_products.Goals as goal

pub loop-place-init : goal.loop-place-init
loop-place-init g c = products_none (map g.T.Scalar.integer c.args.terms.now.items) c.args.factors.now c.args.sides.now c.args.column

pub returns-in-None : goal.returns-in-None
returns-in-None g c = λ _.
    let l : c.loop-place.place < length c.args.sides.now = omega (arith, c.len-place-end.ensures) in
    product_outside g.T.Scalar.fits c.args.factors.now c.args.sides.now c.args.column c.loop-place.place _ c.requires.one_each l (product_is _ _ c.args.factors.now c.args.sides.now c.args.column c.loop-place.place c.at-in-loop-place.result.now c.at.ensures c.at-in-loop-place-2.ensures c.at-in-loop-place.ensures) c.in-None.ensures

pub loop-place-preserved : goal.loop-place-preserved
loop-place-preserved g c =
    let l : c.loop-place.place < length c.args.sides.now = omega (arith, c.len-place-end.ensures) in
    product_more c.args.factors.now c.args.sides.now c.args.column c.loop-place.place (map g.T.Scalar.integer c.args.terms.now.items) (map g.T.Scalar.integer c.loop-place.terms.items) (map g.T.Scalar.integer c.push.new.terms.items) (g.T.Scalar.integer c.in-Some.product) c.requires.one_each l c.loop-place.invariant c.in-Ok.ensures
    (c.in-Some.ensures.1 ∙ product_is _ _ c.args.factors.now c.args.sides.now c.args.column c.loop-place.place c.at-in-loop-place.result.now c.at.ensures c.at-in-loop-place-2.ensures c.at-in-loop-place.ensures)

pub returns : goal.returns
returns g c = c.loop-place.invariant ∙ ap (λ (zs : Vector). map g.T.Scalar.integer c.args.terms.now.items ++ zs) (take_all c.loop-place.place (products c.args.factors.now c.args.sides.now c.args.column) (omega (arith, c.len-place-end.ensures, c.loop-place-test.false, length-products c.args.factors.now c.args.sides.now c.args.column c.requires.one_each)))
