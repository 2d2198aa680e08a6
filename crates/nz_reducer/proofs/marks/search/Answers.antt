use Rattle.std.proofs.Common.{◌<◌, [], length, map, take, get_or, sym, ap, ◌∙◌, subst, arith}
use Rattle.std.proofs.lemmas.List.{length-map, length-take, take_all, get_or_default}
use Rattle.std.specs.Rc.{rc_slice_items}
use Rattle.std.specs.List.{AllByRecursion as Each}
use Rattle.nz_spec.specs.Vectors.{Vector}
use Rattle.nz_order.specs.Boxes.{IsBelow}
use Rattle.nz_reducer.specs.Marks.{IsSearched}
use Rattle.nz_reducer.proofs.MarkLemmas.{searched_start, number_within, mark_skipped, mark_not, mark_hit, image_at}
use Rattle.nz_reducer.proofs.marks.search.Goals as goal

pub loop-index-init : goal.loop-index-init
loop-index-init g c =
    let es = map (λ e. map g.T.Scalar.integer (rc_slice_items e)) c.args.entries.now in
    searched_start es c.args.values.now (length c.args.entries.now) (sym (length-map c.args.entries.now (λ e. map g.T.Scalar.integer (rc_slice_items e))))

pub loop-index-preserved-then-place-first : goal.loop-index-preserved-then-place-first
loop-index-preserved-then-place-first g c =
    let es = map (λ e. map g.T.Scalar.integer (rc_slice_items e)) c.args.entries.now in
    let m = get_or c.args.marks.now c.loop-index.index c.index-marks-index.result in
    let at = get_or_default c.args.marks.now c.loop-index.index c.index-marks-index.result m c.loop-index-test.true in
    let w = subst (λ n. Each (λ k. k < n) (map (λ m. m.place) c.args.marks.now)) (sym (length-map c.args.entries.now (λ e. map g.T.Scalar.integer (rc_slice_items e)))) c.requires.inside in
    mark_skipped es c.args.values.now (λ m. m.place) c.args.marks.now c.loop-index.index m c.loop-index-test.true at c.loop-index.first c.loop-index.compared c.loop-index.invariant w c.if-place-first.true

pub overflow_add-compared : goal.overflow_add-compared
overflow_add-compared g c =
    let es = map (λ e. map g.T.Scalar.integer (rc_slice_items e)) c.args.entries.now in
    let ps = map (λ m. m.place) c.args.marks.now in
    let n = number_within es c.args.values.now (take c.loop-index.index ps) c.loop-index.first c.loop-index.compared c.loop-index.invariant in
    let t = length-take c.loop-index.index ps in
    let w = c.well_formed in
    omega (arith, n, t, w, c.loop-index-test.true)

pub loop-index-preserved-then-not-is_under : goal.loop-index-preserved-then-not-is_under
loop-index-preserved-then-not-is_under g c =
    let es = map (λ e. map g.T.Scalar.integer (rc_slice_items e)) c.args.entries.now in
    let m = get_or c.args.marks.now c.loop-index.index c.index-marks-index.result in
    let at = get_or_default c.args.marks.now c.loop-index.index c.index-marks-index.result m c.loop-index-test.true in
    let l : m.place < length c.args.entries.now = omega (arith, c.if-place-first.false, c.loop-index.invariant.inside, length-map c.args.entries.now (λ e. map g.T.Scalar.integer (rc_slice_items e))) in
    let e = image_at (λ e. map g.T.Scalar.integer (rc_slice_items e)) c.args.entries.now m.place c.index-entries-place.result [] l c.index-entries-place.is ∙ ap (map g.T.Scalar.integer) (sym c.as_slice.ensures.value) in
    mark_not es c.args.values.now (λ m. m.place) c.args.marks.now c.loop-index.index m c.loop-index-test.true at c.loop-index.first c.loop-index.compared c.loop-index.invariant c.requires.different
    (subst (λ (v : Vector). ¬ IsBelow v c.args.values.now) (sym e) c.if-not-is_under.ensures)

pub loop-index-preserved : goal.loop-index-preserved
loop-index-preserved g c =
    let es = map (λ e. map g.T.Scalar.integer (rc_slice_items e)) c.args.entries.now in
    let m = get_or c.args.marks.now c.loop-index.index c.index-marks-index.result in
    let at = get_or_default c.args.marks.now c.loop-index.index c.index-marks-index.result m c.loop-index-test.true in
    let l : m.place < length c.args.entries.now = omega (arith, c.if-place-first.false, c.loop-index.invariant.inside, length-map c.args.entries.now (λ e. map g.T.Scalar.integer (rc_slice_items e))) in
    let e = image_at (λ e. map g.T.Scalar.integer (rc_slice_items e)) c.args.entries.now m.place c.index-entries-place.result [] l c.index-entries-place.is ∙ ap (map g.T.Scalar.integer) (sym c.as_slice.ensures.value) in
    mark_hit es c.args.values.now (λ m. m.place) c.args.marks.now c.loop-index.index m c.loop-index-test.true at c.loop-index.first c.loop-index.compared c.loop-index.invariant c.requires.different c.if-place-first.false
    (subst (λ (v : Vector). IsBelow v c.args.values.now) (sym e) c.if-not-is_under.ensures)

pub returns : goal.returns
returns g c =
    let es = map (λ e. map g.T.Scalar.integer (rc_slice_items e)) c.args.entries.now in
    let ps = map (λ m. m.place) c.args.marks.now in
    subst (λ ks. IsSearched es c.args.values.now ks c.loop-index.first c.loop-index.compared) (take_all c.loop-index.index ps (omega (arith, length-map c.args.marks.now (λ m. m.place), c.loop-index-test.false))) c.loop-index.invariant
