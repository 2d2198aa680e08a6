use Rattle.std.proofs.Common.{◌≡◌, ◌<◌, ◌+◌, ◌-◌, ◌++◌, length, refl, sym, ◌∙◌, subst, arith}
use Rattle.std.specs.Prelude.{slice_index, Contains}
use Rattle.nz_range.specs.Measures.{SomeLarge}
use Rattle.nz_dual.specs.DegreeClasses.{IsEnd}
use Rattle.nz_dual.specs.PairSums.{AddsSums}
use Rattle.nz_dual.specs.Closures.{AreParts, IsSettled}
use Rattle.nz_dual.specs.Sides.{SideLists}
use Rattle.nz_dual.proofs.SideLemmas.{moved}
use Rattle.nz_dual.proofs.SumLemmas.{walk_first, walk_step, walk_last}
use Rattle.nz_dual.proofs.ClosureLemmas.{degrees_length}
use Rattle.nz_dual.proofs.sums.add_sums_with.Goals as goal

pub places-init : goal.places-init
places-init g c = record {
  up_same = refl;
  down_same = refl;
  inside = c.end_of-end.ensures.inside;
  own = c.end_of-end.ensures.last;
  sums = walk_first (IsSettled c.args.rows.now c.args.up.now c.args.down.now) c.args.up.now.rising c.args.down.now.rising c.args.first c.args.down.now.degrees (slice_index c.args.down.now.classes c.args.class) c.end_of-end.result c.args.sums.now c.end_of-end.ensures;
}

pub add_sum_at-requires-clause-part : goal.add_sum_at-requires-clause-part
add_sum_at-requires-clause-part g c = moved (λ u d. AreParts c.args.rows.now u d) c.places.up c.args.up.now c.places.down c.args.down.now (sym c.places.invariant.up_same) (sym c.places.invariant.down_same) (c.requires.part)

pub add_sum_at-requires-clause-first : goal.add_sum_at-requires-clause-first
add_sum_at-requires-clause-first g c = moved (λ u d. c.args.first < length u.rising) c.places.up c.args.up.now c.places.down c.args.down.now (sym c.places.invariant.up_same) (sym c.places.invariant.down_same) (c.requires.first)

pub returns-in-Err-clause-sums : goal.returns-in-Err-clause-sums
returns-in-Err-clause-sums g c = λ e. moved (λ u d. SomeLarge g.T.Scalar.HALF (Contains (u.rising ++ d.rising))) c.args.up.now c.places.up c.args.down.now c.places.down c.places.invariant.up_same c.places.invariant.down_same (c.in-Err.ensures.sums e)

pub add_sum_at-requires-clause-second : goal.add_sum_at-requires-clause-second
add_sum_at-requires-clause-second g c =
    let e : c.places.end ≡ (c.places.end - 1) + 1 = omega (arith, c.places-test.true) in
    let l : c.places.end - 1 < length c.args.down.now.degrees = (let k = c.places.invariant.inside in omega (arith, k, e)) in
    let r : c.places.end - 1 < length c.args.down.now.rising = (let s = degrees_length c.requires.part.0 c.args.rows.now c.args.down.now c.requires.part.1.down_side in omega (arith, s, l)) in
    moved (λ u d. c.places.end - 1 < length d.rising) c.places.up c.args.up.now c.places.down c.args.down.now (sym c.places.invariant.up_same) (sym c.places.invariant.down_same) (r)

pub places-preserved : goal.places-preserved
places-preserved g c =
    let e : c.places.end ≡ (c.places.end - 1) + 1 = omega (arith, c.places-test.true) in
    let l : c.places.end - 1 < length c.args.down.now.degrees = (let k = c.places.invariant.inside in omega (arith, k, e)) in
    let own = c.places.invariant.own (c.places.end - 1) e in
    let n : IsEnd c.args.down.now.degrees (slice_index c.args.down.now.degrees (c.places.end - 1)) (c.places.end - 1) c.end_before-end.result = subst (λ (s : SideLists). IsEnd s.degrees (slice_index s.degrees (c.places.end - 1)) (c.places.end - 1) c.end_before-end.result) (c.add_sum_at.ensures.same.1 ∙ c.places.invariant.down_same) c.end_before-end.ensures in
    record {
      up_same = c.add_sum_at.ensures.same.0 ∙ c.places.invariant.up_same;
      down_same = c.add_sum_at.ensures.same.1 ∙ c.places.invariant.down_same;
      inside = (let k = n.inside in omega (arith, k, l));
      own = λ k h. n.last k h ∙ own;
      sums = walk_step (IsSettled c.args.rows.now c.args.up.now c.args.down.now) c.args.up.now.rising c.args.down.now.rising c.args.first c.args.down.now.degrees (slice_index c.args.down.now.classes c.args.class) c.places.end c.end_before-end.result (c.places.end - 1) c.args.sums.now c.places.sums c.add_sum_at.new.sums e l own n c.places.invariant.sums
          (moved (λ u d. AddsSums (IsSettled c.args.rows.now u d) u.rising d.rising (λ i k. (i ≡ c.args.first) × (k ≡ c.places.end - 1)) c.places.sums c.add_sum_at.new.sums) c.args.up.now c.places.up c.args.down.now c.places.down c.places.invariant.up_same c.places.invariant.down_same (c.in-Ok.ensures.sums));
    }

pub returns-clause-sums : goal.returns-clause-sums
returns-clause-sums g c = walk_last (IsSettled c.args.rows.now c.args.up.now c.args.down.now) c.args.up.now.rising c.args.down.now.rising c.args.first c.args.down.now.degrees (slice_index c.args.down.now.classes c.args.class) c.places.end c.args.sums.now c.places.sums (omega (arith, c.places-test.false)) c.places.invariant.sums
