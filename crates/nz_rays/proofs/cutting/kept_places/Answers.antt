use Rattle.std.proofs.Common.{◌≤ℤ◌, pos, get_or, ℕ, ◌∙◌, refl, arith}
use Rattle.std.proofs.lemmas.Int.{ints}
use Rattle.nz_rays.proofs.PlaceLemmas.{range_push, range_skip, kept_of, not_negative}
use Rattle.nz_rays.proofs.cutting.kept_places.Goals as goal
use Rattle.nz_rays.proofs.cutting.kept_places.Goals.{then-not-is_negative+in-Ok, else-not-is_negative}

pub loop-place-preserved : goal.loop-place-preserved
loop-place-preserved g c =
    let v = c.at.ensures in
    elim c.if-not-is_negative.branch [
      | then-not-is_negative+in-Ok w ↦ range_push (λ (k : ℕ). pos 0 ≤ℤ get_or c.args.values.now k (pos 0)) c.loop-place.place c.loop-place.kept _ c.loop-place.invariant (not_negative _ _ v w.if-not-is_negative.ensures.1) (w.kept-is ∙ w.in-Ok.ensures.ok)
      | else-not-is_negative w ↦ rw w.kept-is (range_skip (λ (k : ℕ). pos 0 ≤ℤ get_or c.args.values.now k (pos 0)) c.loop-place.place c.loop-place.kept c.loop-place.invariant (λ s. let n = w.if-not-is_negative.ensures.0 refl in omega (arith, ints, n, v, s)))
    ]

pub returns : goal.returns
returns g c = kept_of c.args.values.now c.loop-place.place c.loop-place.kept (omega (arith, c.loop-place.auto.place-end, c.len-place-end.ensures)) (omega (arith, c.loop-place-test.false, c.len-place-end.ensures)) c.loop-place.invariant
