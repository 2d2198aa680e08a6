use Rattle.std.proofs.Common.{◌<◌, List, length, map, ℤ, ap, ◌∙◌, subst, arith}
use Rattle.std.specs.List.{AllByRecursion as Each}
use Rattle.nz_spec.specs.Vectors.{Vector, HasWidth}
use Rattle.nz_linear.proofs.Lists.{each_map}
use Rattle.nz_classes.specs.Sums.{sum_of}
use Rattle.nz_classes.proofs.EntryLemmas.{terms_are, sum_refusal}
use Rattle.nz_classes.proofs.SortLemmas.{match_result}
use Rattle.nz_classes.proofs.neighbours.balanced_entry.Goals as goal

pub at-requires-2 : goal.at-requires-2
at-requires-2 g c = omega (arith, c.requires.first_width, c.requires.second_width)

pub push_products-requires-clause-wide : goal.push_products-requires-clause-wide
push_products-requires-clause-wide g c = each_map (HasWidth (length c.args.first.now)) (λ (v : Vector). c.args.column < length v) c.args.sides.now (λ v l. omega (arith, l, c.requires.first_width)) c.requires.wide

pub returns-in-Ok-push_products : goal.returns-in-Ok-push_products
returns-in-Ok-push_products g c =
    let t = terms_are g.T.Scalar.integer c.as_slice.result.now c.push_products.new.terms.items c.push-2.new.terms.items c.push.new.terms.items c.new-terms.result.items _ _ c.args.first.now c.args.second.now c.args.factors.now c.args.sides.now c.args.column c.as_slice.ensures.value c.in-Ok-push_products.ensures c.in-Ok-push.ensures c.in-Ok.ensures c.new-terms.ensures.items c.at.ensures c.at-2.ensures in
    match_result _ _ _ _ (λ s h. h ∙ ap sum_of t) (λ e h k. subst (λ (ts : List ℤ). Each g.T.Scalar.fits ts → ¬ g.T.Scalar.fits (sum_of ts)) t (sum_refusal g.T.Scalar.fits (map g.T.Scalar.integer c.as_slice.result.now) e h k)) c.balanced_sum.result c.balanced_sum.ensures
