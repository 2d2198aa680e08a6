use Rattle.std.proofs.Common.{[], ◌∷◌, inl, ℕ, length, sym, ap, ◌∙◌, subst}
use Rattle.std.specs.Prelude.{unsigned_abs}
use Rattle.std.specs.List.{AllByRecursion as Each}
use Rattle.nz_spec.specs.Vectors.{HasWidth}
use Rattle.nz_spec.proofs.ListLaws.{each_at}
use Rattle.nz_classes.specs.Classes.{HasReducedValues}
use Rattle.nz_classes.specs.Steps.{IsExpanded}
use Rattle.nz_classes.specs.Walks.{paired}
use Rattle.nz_classes.proofs.CauseLemmas.{caused_value}
use Rattle.nz_classes.proofs.SimplexLemmas.{forms_wide}
use Rattle.nz_classes.proofs.SortLemmas.{match_result}
use Rattle.nz_classes.proofs.StepLemmas.{caused_of, alone_named}
use Rattle.nz_classes.proofs.WalkLemmas.{point_of}
use Rattle.nz_classes.proofs.walking.expand.Goals as goal

pub values_at-requires : goal.values_at-requires
values_at-requires g c =
    let sides = c.args.steps.now.sides.now in
    let forms = c.args.steps.now.forms.now in
    let l = ap length c.in-Ok.ensures ∙ each_at (HasWidth (length sides)) c.args.found.now c.args.place [] c.requires.part.wide c.requires.place in
    subst (λ (n : ℕ). Each (HasWidth n) forms) (sym l) (forms_wide sides forms c.requires.prepared.simplex)

pub spread-requires-clause-width : goal.spread-requires-clause-width
spread-requires-clause-width g c = ap length c.in-Ok.ensures ∙ each_at (HasWidth (length c.args.steps.now.sides.now)) c.args.found.now c.args.place [] c.requires.part.wide c.requires.place

pub spread-requires-clause-reduced : goal.spread-requires-clause-reduced
spread-requires-clause-reduced g c =
    let R = HasReducedValues (paired c.args.steps.now.forms.now c.args.steps.now.sides.now) in
    subst R (sym c.in-Ok.ensures) (each_at R c.args.found.now c.args.place [] c.requires.part.reduced c.requires.place)

pub returns : goal.returns
returns g c = match_result _ _ _ _ (λ _ h. (h.0, h.1, subst (IsExpanded (length c.args.steps.now.sides.now) (paired c.args.steps.now.forms.now c.args.steps.now.sides.now) c.spread.new.found) c.in-Ok.ensures h.2)) (λ e h. h) c.spread.result c.spread.ensures

pub returns-in-Err-values_at : goal.returns-in-Err-values_at
returns-in-Err-values_at g c =
    let sides = c.args.steps.now.sides.now in
    let forms = c.args.steps.now.forms.now in
    let s = c.requires.prepared.simplex in
    let R = HasReducedValues (paired forms sides) in
    let l = ap length c.in-Ok.ensures ∙ each_at (HasWidth (length sides)) c.args.found.now c.args.place [] c.requires.part.wide c.requires.place in
    let r = subst R (sym c.in-Ok.ensures) (each_at R c.args.found.now c.args.place [] c.requires.part.reduced c.requires.place) in
    c.work_of.ensures (unsigned_abs g.T.Scalar.HALF) c.args.limit sides forms
    (caused_of (unsigned_abs g.T.Scalar.HALF) sides forms c.in-Err-values_at.refusal (λ e. caused_value g.T.Scalar.HALF g.T.Scalar.fits g.met.T.Scalar.room sides forms s (c.in-Ok.point ∷ []) (alone_named sides c.in-Ok.point (inl (point_of sides forms s c.in-Ok.point l r))) (c.in-Err-values_at.ensures e)))
