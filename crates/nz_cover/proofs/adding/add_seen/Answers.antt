use Rattle.std.proofs.Common.{refl, subst, ap, ◌∷◌, [], ◌∙◌, get_or, ℤ, ◌-ℤ◌}
use Rattle.nz_spec.specs.Vectors.{Vector, dot}
use Rattle.nz_spec.proofs.ListLaws.{contains_here}
use Rattle.nz_range.proofs.Causes.{value_for, opposite_for}
use Rattle.nz_range.specs.Measures.{AreLargeFor}
use Rattle.nz_pointed.proofs.SignLemmas.{not_true}
use Rattle.nz_cover.specs.Corners.{all_forms}
use Rattle.nz_cover.proofs.AddedLemmas.{extended_unseen, seen_by, unseen_by}
use Rattle.nz_cover.proofs.adding.add_seen.Goals as goal

pub returns-in-None : goal.returns-in-None
returns-in-None g c = λ e. subst (λ (v : Vector). AreLargeFor g.T.Scalar.HALF v (c.args.facet.now ∷ all_forms c.args.cells.now)) c.at.ensures (value_for g.T.Scalar.HALF g.T.Scalar.fits g.met.T.Scalar.room c.at.result.now c.args.facet.now (c.args.facet.now ∷ all_forms c.args.cells.now) (contains_here c.args.facet.now (all_forms c.args.cells.now)) c.in-None.ensures)

pub add_on-requires-clause-seen : goal.add_on-requires-clause-seen
add_on-requires-clause-seen g c = seen_by (get_or c.args.rays.now c.args.place []) c.args.facet.now (g.T.Scalar.integer c.in-Some.value) (c.in-Some.ensures.1 ∙ ap (λ (v : Vector). dot v c.args.facet.now) c.at.ensures) (c.if-is_negative.ensures.0 refl)

pub returns-in-None-try_sub : goal.returns-in-None-try_sub
returns-in-None-try_sub g c = λ e. opposite_for g.T.Scalar.HALF g.T.Scalar.fits g.met.T.Scalar.room (get_or c.args.rays.now c.args.place []) c.args.facet.now (g.T.Scalar.integer c.in-Some.value) (c.args.facet.now ∷ all_forms c.args.cells.now) (contains_here c.args.facet.now (all_forms c.args.cells.now)) (c.in-Some.ensures.1 ∙ ap (λ (v : Vector). dot v c.args.facet.now) c.at.ensures)
    (subst (λ (z : ℤ). ¬ g.T.Scalar.fits (z -ℤ g.T.Scalar.integer c.in-Some.value)) c.of_i64.ensures c.in-None-try_sub.ensures)

pub returns-else-is_negative : goal.returns-else-is_negative
returns-else-is_negative g c = extended_unseen c.args.rays.now c.args.place c.args.facet.now c.args.cells.now c.args.added.items (unseen_by (get_or c.args.rays.now c.args.place []) c.args.facet.now (g.T.Scalar.integer c.in-Some.value) (c.in-Some.ensures.1 ∙ ap (λ (v : Vector). dot v c.args.facet.now) c.at.ensures) (λ p. not_true (c.if-is_negative.ensures.1 p)))
