use Rattle.std.proofs.Common.{◌<◌, ◌≤◌, ◌+◌, ◌++◌, length, refl, sym, ap, ap₂, ◌∙◌, arith}
use Rattle.std.specs.Prelude.{slice_index, Contains}
use Rattle.nz_range.specs.Measures.{SomeLarge}
use Rattle.nz_dual.specs.PairSums.{HaveDegrees, AddsSums}
use Rattle.nz_dual.specs.Closures.{AreParts, IsSettled}
use Rattle.nz_dual.specs.Sides.{SideLists}
use Rattle.nz_dual.proofs.SideLemmas.{moved}
use Rattle.nz_dual.proofs.SumLemmas.{class_first, class_step, class_skip, class_last}
use Rattle.nz_dual.proofs.sums.add_sums.Goals as goal

pub loop-second-init : goal.loop-second-init
loop-second-init g c = record {
  up_same = refl;
  down_same = refl;
  sums = class_first (IsSettled c.args.rows.now c.args.up.now c.args.down.now) c.args.up.now.rising c.args.down.now.rising c.args.up.now.degrees (slice_index c.args.up.now.classes c.args.first) c.args.down.now.degrees c.args.down.now.classes c.args.wanted c.args.sums.now;
}

pub class_degree-requires : goal.class_degree-requires
class_degree-requires g c = moved (λ u d. c.args.first < length u.classes) c.loop-second.up c.args.up.now c.loop-second.down c.args.down.now (sym c.loop-second.invariant.up_same) (sym c.loop-second.invariant.down_same) (c.requires.first)

pub class_degree-requires-in-loop-second : goal.class_degree-requires-in-loop-second
class_degree-requires-in-loop-second g c =
    let l : c.loop-second.second < length c.args.down.now.classes = omega (arith, c.class_count-second-end.ensures.count, c.loop-second-test.true) in
    moved (λ u d. c.loop-second.second < length d.classes) c.loop-second.up c.args.up.now c.loop-second.down c.args.down.now (sym c.loop-second.invariant.up_same) (sym c.loop-second.invariant.down_same) (l)

pub add_class_sums-requires-clause-part : goal.add_class_sums-requires-clause-part
add_class_sums-requires-clause-part g c = moved (λ u d. AreParts c.args.rows.now u d) c.loop-second.up c.args.up.now c.loop-second.down c.args.down.now (sym c.loop-second.invariant.up_same) (sym c.loop-second.invariant.down_same) (c.requires.part)

pub add_class_sums-requires-clause-first : goal.add_class_sums-requires-clause-first
add_class_sums-requires-clause-first g c = moved (λ u d. c.args.first < length u.classes) c.loop-second.up c.args.up.now c.loop-second.down c.args.down.now (sym c.loop-second.invariant.up_same) (sym c.loop-second.invariant.down_same) (c.requires.first)

pub add_class_sums-requires-clause-second : goal.add_class_sums-requires-clause-second
add_class_sums-requires-clause-second g c =
    let l : c.loop-second.second < length c.args.down.now.classes = omega (arith, c.class_count-second-end.ensures.count, c.loop-second-test.true) in
    moved (λ u d. c.loop-second.second < length d.classes) c.loop-second.up c.args.up.now c.loop-second.down c.args.down.now (sym c.loop-second.invariant.up_same) (sym c.loop-second.invariant.down_same) (l)

pub returns-in-Err-clause-sums : goal.returns-in-Err-clause-sums
returns-in-Err-clause-sums g c = λ e. moved (λ u d. SomeLarge g.T.Scalar.HALF (Contains (u.rising ++ d.rising))) c.args.up.now c.loop-second.up c.args.down.now c.loop-second.down c.loop-second.invariant.up_same c.loop-second.invariant.down_same (c.in-Err.ensures.sums e)

pub loop-second-preserved-then-class_degree-wanted : goal.loop-second-preserved-then-class_degree-wanted
loop-second-preserved-then-class_degree-wanted g c =
    let l : c.loop-second.second < length c.args.down.now.classes = omega (arith, c.class_count-second-end.ensures.count, c.loop-second-test.true) in
    let va = c.class_degree.ensures.value ∙ ap (λ (s : SideLists). slice_index s.classes c.args.first) c.loop-second.invariant.up_same in
    let vb = c.class_degree-in-loop-second.ensures.value ∙ ap (λ (s : SideLists). slice_index s.classes c.loop-second.second) c.loop-second.invariant.down_same in
    record {
      up_same = c.loop-second.invariant.up_same;
      down_same = c.loop-second.invariant.down_same;
      sums = class_skip (IsSettled c.args.rows.now c.args.up.now c.args.down.now) c.args.up.now.rising c.args.down.now.rising c.args.up.now.degrees (slice_index c.args.up.now.classes c.args.first) c.args.down.now.degrees c.args.down.now.classes c.args.wanted c.loop-second.second c.args.sums.now c.loop-second.sums l (λ e. c.if-class_degree-wanted.true (omega (arith, e, va, vb))) c.loop-second.invariant.sums;
    }

pub loop-second-preserved : goal.loop-second-preserved
loop-second-preserved g c =
    let l : c.loop-second.second < length c.args.down.now.classes = omega (arith, c.class_count-second-end.ensures.count, c.loop-second-test.true) in
    let va = c.class_degree.ensures.value ∙ ap (λ (s : SideLists). slice_index s.classes c.args.first) c.loop-second.invariant.up_same in
    let vb = c.class_degree-in-loop-second.ensures.value ∙ ap (λ (s : SideLists). slice_index s.classes c.loop-second.second) c.loop-second.invariant.down_same in
    record {
      up_same = c.add_class_sums.ensures.same.0 ∙ c.loop-second.invariant.up_same;
      down_same = c.add_class_sums.ensures.same.1 ∙ c.loop-second.invariant.down_same;
      sums = class_step (IsSettled c.args.rows.now c.args.up.now c.args.down.now) c.args.up.now.rising c.args.down.now.rising c.args.up.now.degrees (slice_index c.args.up.now.classes c.args.first) c.args.down.now.degrees c.args.down.now.classes c.args.wanted c.loop-second.second c.args.sums.now c.loop-second.sums c.add_class_sums.new.sums l (ap₂ (λ a b. a + b) (sym va) (sym vb) ∙ c.if-class_degree-wanted.false) c.loop-second.invariant.sums
          (moved (λ u d. AddsSums (IsSettled c.args.rows.now u d) u.rising d.rising (HaveDegrees u.degrees (slice_index u.classes c.args.first) d.degrees (slice_index d.classes c.loop-second.second)) c.loop-second.sums c.add_class_sums.new.sums) c.args.up.now c.loop-second.up c.args.down.now c.loop-second.down c.loop-second.invariant.up_same c.loop-second.invariant.down_same (c.in-Ok.ensures.sums));
    }

pub returns-clause-sums : goal.returns-clause-sums
returns-clause-sums g c =
    let l : length c.args.down.now.classes ≤ c.loop-second.second = omega (arith, c.class_count-second-end.ensures.count, c.loop-second-test.false) in
    class_last (IsSettled c.args.rows.now c.args.up.now c.args.down.now) c.args.up.now.rising c.args.down.now.rising c.args.up.now.degrees (slice_index c.args.up.now.classes c.args.first) c.args.down.now.degrees c.args.down.now.classes c.args.wanted c.loop-second.second c.args.sums.now c.loop-second.sums l c.class_count-second-end.ensures.all c.loop-second.invariant.sums
