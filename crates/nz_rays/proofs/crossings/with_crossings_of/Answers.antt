use Rattle.std.proofs.Common.{◌<◌, ◌<ℤ◌, pos, length, refl, subst, arith}
use Rattle.nz_rays.proofs.CutSetLemmas.{shared_in, shared_places_in}
use Rattle.nz_rays.proofs.PlaceLemmas.{not_below}
use Rattle.nz_rays.proofs.CrossingLemmas.{crossings_skip, found_push, found_none, crossings_next}
use Rattle.nz_rays.proofs.crossings.with_crossings_of.Goals as goal
use Rattle.nz_rays.proofs.crossings.with_crossings_of.Goals.{then-is_negative+in-Ok-crossing_of+in-Some+in-Ok-push, then-is_negative+in-Ok-crossing_of+in-None, else-is_negative}

pub near_places-requires-clause-first : goal.near_places-requires-clause-first
near_places-requires-clause-first g c = shared_in c.args.values.now c.args.zeros.now c.args.columns.now c.requires.columns c.args.above (omega (arith, c.requires.within, c.requires.count))

pub near_places-requires-clause-busy : goal.near_places-requires-clause-busy
near_places-requires-clause-busy g c = shared_places_in c.args.values.now c.args.zeros.now c.args.columns.now c.requires.columns c.args.busy.now c.requires.busy.within

pub loop-below-preserved : goal.loop-below-preserved
loop-below-preserved g c =
    let within : c.loop-below.below < length c.args.values.now = omega (arith, c.loop-below-test.true, c.len-below-end.ensures) in
    elim c.if-is_negative.branch [
      | then-is_negative+in-Ok-crossing_of+in-Some+in-Ok-push w ↦ rw w.list-is (found_push c.args.values.now c.args.zeros.now c.args.above c.loop-below.below c.loop-below.list.items w.push.new.self.items w.in-Ok-crossing_of.found w.in-Some.crossing c.loop-below.invariant
          (record { above_within = c.requires.within; below_within = within; over = c.requires.positive; under = subst (λ t. t <ℤ pos 0) c.at.ensures (w.if-is_negative.ensures.0 refl) }) w.in-Some.is w.in-Ok-crossing_of.ensures w.in-Ok-push.ensures.items)
      | then-is_negative+in-Ok-crossing_of+in-None w ↦ rw w.list-is (crossings_skip c.args.values.now c.args.zeros.now c.args.above c.loop-below.below c.loop-below.list.items c.loop-below.invariant (λ s. found_none c.args.zeros.now c.args.above c.loop-below.below w.in-Ok-crossing_of.found w.in-None.is w.in-Ok-crossing_of.ensures))
      | else-is_negative w ↦ rw w.list-is (crossings_skip c.args.values.now c.args.zeros.now c.args.above c.loop-below.below c.loop-below.list.items c.loop-below.invariant (λ s. absurd (not_below _ _ c.at.ensures w.if-is_negative.ensures.1 s.under)))
    ]

pub returns : goal.returns
returns g c = crossings_next c.args.values.now c.args.zeros.now c.args.above c.loop-below.below c.loop-below.list.items (omega (arith, c.loop-below-test.false, c.len-below-end.ensures)) c.loop-below.invariant
