use Rattle.std.proofs.Common.{◌≡◌, ℕ, ◌<◌, ◌<ℤ◌, pos, length, get_or, refl, sym, subst, arith}
use Rattle.std.specs.List.{AllByRecursion as Each}
use Rattle.nz_spec.proofs.ListLaws.{Each-contains}
use Rattle.nz_linear.proofs.Lists.{each_map}
use Rattle.nz_rays.specs.Words.{HaveFew}
use Rattle.nz_rays.proofs.PlaceLemmas.{not_above}
use Rattle.nz_rays.proofs.CrossingLemmas.{crossings_pass, crossings_far}
use Rattle.nz_rays.proofs.CutSetLemmas.{shared_in, shared_places_in, shared_few, shared_wide}
use Rattle.nz_rays.proofs.crossings.crossings.Goals as goal
use Rattle.nz_rays.proofs.crossings.crossings.Goals.{then-is_positive+then-not-are_far+in-Ok-with_crossings_of, then-is_positive+else-not-are_far, else-is_positive}

pub are_far-requires-clause-first : goal.are_far-requires-clause-first
are_far-requires-clause-first g c = shared_in c.args.values.now c.args.zeros.now c.args.columns.now c.requires.columns c.loop-above.above (omega (arith, c.loop-above-test.true, c.len-above-end.ensures, c.requires.count))

pub are_far-requires-clause-places : goal.are_far-requires-clause-places
are_far-requires-clause-places g c = shared_places_in c.args.values.now c.args.zeros.now c.args.columns.now c.requires.columns c.in-Ok.places
    (each_map (λ (k : ℕ). (k < length c.args.values.now) × (get_or c.args.values.now k (pos 0) <ℤ pos 0)) (λ (k : ℕ). k < length c.args.zeros.now) c.in-Ok.places (λ k h. let l = h.0 in omega (arith, l, c.requires.count)) c.in-Ok.ensures.only)

pub loop-above-preserved : goal.loop-above-preserved
loop-above-preserved g c = elim c.if-is_positive.branch [
  | then-is_positive+then-not-are_far+in-Ok-with_crossings_of w ↦ rw w.list-is w.in-Ok-with_crossings_of.ensures
  | then-is_positive+else-not-are_far w ↦ rw w.list-is (crossings_far c.args.values.now c.args.zeros.now c.loop-above.above c.loop-above.list.items
      (λ b s.
      let la : c.loop-above.above < length c.args.zeros.now = (let h = s.above_within in omega (arith, h, c.requires.count)) in
      let lb : b < length c.args.zeros.now = (let h = s.below_within in omega (arith, h, c.requires.count)) in
      shared_few c.args.values.now c.args.zeros.now c.args.columns.now c.requires.columns c.loop-above.above b s la lb c.requires.sets c.args.needed (c.requires.few c.loop-above.above b s)
      (Each-contains (λ k. HaveFew c.args.columns.now c.loop-above.above k c.args.needed) c.in-Ok.places b (w.if-not-are_far.ensures refl) (c.in-Ok.ensures.each b (s.below_within, s.under)))) c.loop-above.invariant)
  | else-is_positive w ↦ rw w.list-is (crossings_pass c.args.values.now c.args.zeros.now c.loop-above.above c.loop-above.list.items (not_above _ _ c.at.ensures w.if-is_positive.ensures.1) c.loop-above.invariant)
]

pub busy_places-requires : goal.busy_places-requires
busy_places-requires g c = subst (λ (n : ℕ). Each (λ w. length w ≡ n) c.args.columns.now) (sym c.len.ensures) (shared_wide c.args.values.now c.args.zeros.now c.args.columns.now c.requires.columns)
