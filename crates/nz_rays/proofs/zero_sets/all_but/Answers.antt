use Rattle.std.proofs.Common.{◌≢◌, ℕ, ◌∙◌, arith}
use Rattle.nz_rays.proofs.PlaceLemmas.{range_push, range_skip, range_all}
use Rattle.nz_rays.proofs.zero_sets.all_but.Goals as goal
use Rattle.nz_rays.proofs.zero_sets.all_but.Goals.{then-other-place+in-Ok, else-other-place}

pub loop-other-preserved : goal.loop-other-preserved
loop-other-preserved c = elim c.if-other-place.branch [
  | then-other-place+in-Ok w ↦ range_push (λ (k : ℕ). k ≢ c.args.place) c.loop-other.other c.loop-other.others _ c.loop-other.invariant w.if-other-place.true (w.others-is ∙ w.in-Ok.ensures.ok)
  | else-other-place w ↦ rw w.others-is (range_skip (λ (k : ℕ). k ≢ c.args.place) c.loop-other.other c.loop-other.others c.loop-other.invariant (λ n. n w.if-other-place.false))
]

pub returns : goal.returns
returns c = range_all (λ (k : ℕ). k ≢ c.args.place) c.loop-other.other c.args.count c.loop-other.others (omega (arith, c.loop-other-test.false)) c.loop-other.invariant
