use Rattle.std.proofs.Common.{◌<ℤ◌, pos, get_or, length, ℕ, ◌∙◌, refl, subst, arith}
use Rattle.nz_rays.proofs.PlaceLemmas.{range_push, range_skip, range_all, not_below}
use Rattle.nz_rays.proofs.sharing.negative_places.Goals as goal
use Rattle.nz_rays.proofs.sharing.negative_places.Goals.{then-is_negative+in-Ok, else-is_negative}

pub loop-place-preserved : goal.loop-place-preserved
loop-place-preserved g c =
    let v = c.at.ensures in
    elim c.if-is_negative.branch [
      | then-is_negative+in-Ok w ↦ range_push (λ (k : ℕ). get_or c.args.values.now k (pos 0) <ℤ pos 0) c.loop-place.place c.loop-place.places _ c.loop-place.invariant (subst (λ t. t <ℤ pos 0) v (w.if-is_negative.ensures.0 refl)) (w.places-is ∙ w.in-Ok.ensures.ok)
      | else-is_negative w ↦ rw w.places-is (range_skip (λ (k : ℕ). get_or c.args.values.now k (pos 0) <ℤ pos 0) c.loop-place.place c.loop-place.places c.loop-place.invariant (not_below _ _ v w.if-is_negative.ensures.1))
    ]

pub returns : goal.returns
returns g c = range_all (λ (k : ℕ). get_or c.args.values.now k (pos 0) <ℤ pos 0) c.loop-place.place (length c.args.values.now) c.loop-place.places (omega (arith, c.loop-place.auto.place-end, c.loop-place-test.false, c.len-place-end.ensures)) c.loop-place.invariant
