use Rattle.std.proofs.Common.{◌<◌, ◌≤◌, [], ◌++◌, length, take, refl, sym, ◌∙◌, subst, arith}
use Rattle.std.specs.Prelude.{slice_index, Contains}
use Rattle.nz_range.specs.Measures.{SomeLarge}
use Rattle.nz_dual.specs.PairSums.{HaveSumFrom, HaveSum, AddsSums}
use Rattle.nz_dual.specs.Closures.{AreParts, IsSettled}
use Rattle.nz_dual.proofs.SideLemmas.{moved}
use Rattle.nz_dual.proofs.SumLemmas.{degree_first, degree_step, degree_last}
use Rattle.nz_dual.proofs.sums.sums_of.Goals as goal

pub loop-class-init : goal.loop-class-init
loop-class-init g c = record {
  up_same = refl;
  down_same = refl;
  sums = subst (AddsSums (IsSettled c.args.rows.now c.args.up.now c.args.down.now) c.args.up.now.rising c.args.down.now.rising (λ i k. Contains (take 0 c.args.up.now.classes) (slice_index c.args.up.now.degrees i) × HaveSum c.args.up.now.degrees c.args.down.now.degrees c.args.wanted i k) []) (sym c.new-sums.ensures) (degree_first (IsSettled c.args.rows.now c.args.up.now c.args.down.now) c.args.up.now.rising c.args.down.now.rising c.args.up.now.degrees c.args.up.now.classes c.args.down.now.degrees c.args.wanted []);
}

pub add_sums-requires-clause-part : goal.add_sums-requires-clause-part
add_sums-requires-clause-part g c = moved (λ u d. AreParts c.args.rows.now u d) c.loop-class.up c.args.up.now c.loop-class.down c.args.down.now (sym c.loop-class.invariant.up_same) (sym c.loop-class.invariant.down_same) (c.requires)

pub add_sums-requires-clause-first : goal.add_sums-requires-clause-first
add_sums-requires-clause-first g c =
    let l : c.loop-class.class < length c.args.up.now.classes = omega (arith, c.class_count-class-end.ensures.count, c.loop-class-test.true) in
    moved (λ u d. c.loop-class.class < length u.classes) c.loop-class.up c.args.up.now c.loop-class.down c.args.down.now (sym c.loop-class.invariant.up_same) (sym c.loop-class.invariant.down_same) (l)

pub returns-in-Err-clause-sums : goal.returns-in-Err-clause-sums
returns-in-Err-clause-sums g c = λ e. moved (λ u d. SomeLarge g.T.Scalar.HALF (Contains (u.rising ++ d.rising))) c.args.up.now c.loop-class.up c.args.down.now c.loop-class.down c.loop-class.invariant.up_same c.loop-class.invariant.down_same (c.in-Err.ensures.sums e)

pub loop-class-preserved : goal.loop-class-preserved
loop-class-preserved g c =
    let l : c.loop-class.class < length c.args.up.now.classes = omega (arith, c.class_count-class-end.ensures.count, c.loop-class-test.true) in
    record {
      up_same = c.add_sums.ensures.same.0 ∙ c.loop-class.invariant.up_same;
      down_same = c.add_sums.ensures.same.1 ∙ c.loop-class.invariant.down_same;
      sums = degree_step (IsSettled c.args.rows.now c.args.up.now c.args.down.now) c.args.up.now.rising c.args.down.now.rising c.args.up.now.degrees c.args.up.now.classes c.args.down.now.degrees c.args.wanted c.loop-class.class [] c.loop-class.sums c.add_sums.new.sums l c.loop-class.invariant.sums
          (moved (λ u d. AddsSums (IsSettled c.args.rows.now u d) u.rising d.rising (HaveSumFrom u.degrees (slice_index u.classes c.loop-class.class) d.degrees c.args.wanted) c.loop-class.sums c.add_sums.new.sums) c.args.up.now c.loop-class.up c.args.down.now c.loop-class.down c.loop-class.invariant.up_same c.loop-class.invariant.down_same (c.in-Ok.ensures.sums));
    }

pub returns-clause-sums : goal.returns-clause-sums
returns-clause-sums g c =
    let l : length c.args.up.now.classes ≤ c.loop-class.class = omega (arith, c.class_count-class-end.ensures.count, c.loop-class-test.false) in
    degree_last (IsSettled c.args.rows.now c.args.up.now c.args.down.now) c.args.up.now.rising c.args.down.now.rising c.args.up.now.degrees c.args.up.now.classes c.args.down.now.degrees c.args.wanted c.loop-class.class [] c.loop-class.sums refl l c.class_count-class-end.ensures.all c.loop-class.invariant.sums
