use Rattle.std.proofs.Common.{◌<ℤ◌, pos, get_or, length, ℕ, ◌∙◌, refl, subst, arith}
use Rattle.nz_rays.proofs.PlaceLemmas.{range_push, range_skip, range_all, not_above}
use Rattle.nz_rays.proofs.sharing.positive_places.Goals as goal
use Rattle.nz_rays.proofs.sharing.positive_places.Goals.{then-is_positive+in-Ok, else-is_positive}

pub loop-place-preserved : goal.loop-place-preserved
loop-place-preserved g c =
    let v = c.at.ensures in
    elim c.if-is_positive.branch [
      | then-is_positive+in-Ok w ↦ range_push (λ (k : ℕ). pos 0 <ℤ get_or c.args.values.now k (pos 0)) c.loop-place.place c.loop-place.places _ c.loop-place.invariant (subst (λ t. pos 0 <ℤ t) v (w.if-is_positive.ensures.0 refl)) (w.places-is ∙ w.in-Ok.ensures.ok)
      | else-is_positive w ↦ rw w.places-is (range_skip (λ (k : ℕ). pos 0 <ℤ get_or c.args.values.now k (pos 0)) c.loop-place.place c.loop-place.places c.loop-place.invariant (not_above _ _ v w.if-is_positive.ensures.1))
    ]

pub returns : goal.returns
returns g c = range_all (λ (k : ℕ). pos 0 <ℤ get_or c.args.values.now k (pos 0)) c.loop-place.place (length c.args.values.now) c.loop-place.places (omega (arith, c.loop-place.auto.place-end, c.loop-place-test.false, c.len-place-end.ensures)) c.loop-place.invariant
