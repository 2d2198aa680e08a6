use Rattle.std.proofs.Common.{◌≡◌, ◌<◌, get_or, [], length, map, Contains, ap, sym, ◌∙◌, subst}
use Rattle.std.proofs.lemmas.List.{take_all}
use Rattle.std.specs.Int.Bits.{bit_and}
use Rattle.std.specs.Rc.{rc_slice_items}
use Rattle.nz_spec.specs.Vectors.{Vector}
use Rattle.nz_order.specs.Boxes.{IsBelow}
use Rattle.nz_spec.proofs.ListLaws.{contains_at, Each-contains}
use Rattle.nz_reducer.specs.Marks.{NoneOfMarked}
use Rattle.nz_reducer.proofs.MarkLemmas.{none_more, image_at}
use Rattle.nz_reducer.proofs.marks.find_under.Goals as goal

pub returns-then-is_under : goal.returns-then-is_under
returns-then-is_under g c =
    let m = c.index-marks-index.result in
    let listed = subst (λ x. Contains c.args.marks.now x) (sym c.index-marks-index.is) (contains_at c.args.marks.now c.loop-index.index m c.loop-index-test.true) in
    let l = Each-contains (λ x. x.place < length c.args.entries.now) c.args.marks.now m c.requires.inside listed in
    let e = image_at (λ e. map g.T.Scalar.integer (rc_slice_items e)) c.args.entries.now m.place c.index-entries-mark.result [] l c.index-entries-mark.is ∙ ap (map g.T.Scalar.integer) (sym c.as_slice.ensures.value) in
    record { inside = c.loop-index-test.true; mark = m; at = c.index-marks-index.is; below = subst (λ (v : Vector). IsBelow v c.args.values.now) (sym e) c.if-is_under.ensures }

pub loop-index-preserved-then-not-is_within : goal.loop-index-preserved-then-not-is_within
loop-index-preserved-then-not-is_within g c =
    let m = c.index-marks-index.result in
    let listed = subst (λ x. Contains c.args.marks.now x) (sym c.index-marks-index.is) (contains_at c.args.marks.now c.loop-index.index m c.loop-index-test.true) in
    let rows = map (λ e. map g.T.Scalar.integer (rc_slice_items e)) c.args.entries.now in
    let t = Each-contains (λ x. IsBelow (get_or rows x.place []) c.args.values.now → bit_and x.word c.args.word ≡ x.word) c.args.marks.now m c.requires.words listed in
    none_more (λ m. m.place) rows c.args.values.now c.args.marks.now c.loop-index.index m c.loop-index-test.true c.index-marks-index.is c.loop-index.invariant (λ b. c.if-not-is_within.ensures (t b))

pub loop-index-preserved : goal.loop-index-preserved
loop-index-preserved g c =
    let m = c.index-marks-index.result in
    let listed = subst (λ x. Contains c.args.marks.now x) (sym c.index-marks-index.is) (contains_at c.args.marks.now c.loop-index.index m c.loop-index-test.true) in
    let l = Each-contains (λ x. x.place < length c.args.entries.now) c.args.marks.now m c.requires.inside listed in
    let e = image_at (λ e. map g.T.Scalar.integer (rc_slice_items e)) c.args.entries.now m.place c.index-entries-mark.result [] l c.index-entries-mark.is ∙ ap (map g.T.Scalar.integer) (sym c.as_slice.ensures.value) in
    none_more (λ m. m.place) (map (λ e. map g.T.Scalar.integer (rc_slice_items e)) c.args.entries.now) c.args.values.now c.args.marks.now c.loop-index.index m c.loop-index-test.true c.index-marks-index.is c.loop-index.invariant
    (λ b. c.if-is_under.ensures (subst (λ (v : Vector). IsBelow v c.args.values.now) e b))

pub returns : goal.returns
returns g c = subst (NoneOfMarked (λ m. m.place) (map (λ e. map g.T.Scalar.integer (rc_slice_items e)) c.args.entries.now) c.args.values.now) (take_all c.loop-index.index c.args.marks.now c.loop-index-test.false) c.loop-index.invariant
