use Rattle.std.proofs.Common.{◌<◌, ◌∷◌, length, ap, ◌∙◌, arith}
use Rattle.std.proofs.lemmas.List.{take_all}
use Rattle.nz_spec.specs.Vectors.{Vector, entry}
use Rattle.nz_classes.specs.Steps.{products}
use Rattle.nz_classes.specs.Sums.{sum_of}
use Rattle.nz_classes.proofs.EntryLemmas.{length-products, left_more, product_is}
use Rattle.nz_classes.proofs.neighbours.left_entry.Goals as goal

pub at-requires-2 : goal.at-requires-2
at-requires-2 g c = omega (arith, c.requires.first_width, c.requires.second_width)

pub loop-place-preserved : goal.loop-place-preserved
loop-place-preserved g c =
    let l : c.loop-place.place < length c.args.sides.now = omega (arith, c.len-place-end.ensures) in
    left_more (entry c.args.first.now c.args.column) (entry c.args.second.now c.args.column) (g.T.Scalar.integer c.loop-place.sum) (g.T.Scalar.integer c.in-Some-with_product.more) _ c.args.factors.now c.args.sides.now c.args.column c.loop-place.place c.requires.one_each l c.loop-place.invariant c.in-Some-with_product.ensures
    (product_is _ _ c.args.factors.now c.args.sides.now c.args.column c.loop-place.place c.at-in-loop-place-2.result.now c.at-in-loop-place.ensures c.at-in-loop-place-3.ensures c.at-in-loop-place-2.ensures)

pub returns : goal.returns
returns g c = c.loop-place.invariant ∙ ap (λ (zs : Vector). sum_of (entry c.args.first.now c.args.column ∷ entry c.args.second.now c.args.column ∷ zs)) (take_all c.loop-place.place (products c.args.factors.now c.args.sides.now c.args.column) (omega (arith, c.len-place-end.ensures, c.loop-place-test.false, length-products c.args.factors.now c.args.sides.now c.args.column c.requires.one_each)))
