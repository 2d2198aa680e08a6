use Rattle.std.proofs.Common.{◌+◌, ◌∷◌, ◌++◌, [], List, map, take, sym, ap, ◌∙◌, subst, arith}
use Rattle.std.proofs.lemmas.List.{length-map, map-append}
use Rattle.nz_spec.specs.Vectors.{Vector, values_at, IsZero}
use Rattle.nz_reducer.specs.Tables.{TableLists}
use Rattle.nz_reducer.proofs.Reducing.{Kept, kept_start}
use Rattle.nz_reducer.proofs.Keeping.{AreInOrder, sorted_items, item_long, item_zero, item_under, item_kept, table_more, kept_end}
use Rattle.nz_reducer.proofs.irreducible.unreduced.Goals as goal

pub loop-candidate-init : goal.loop-candidate-init
loop-candidate-init g c =
    let int = g.T.Scalar.integer in
    let es = map (λ c. map int c.entries.items) c.deref-candidate-items.result.now in
    record {
      kept = subst (λ (ks : List _). Kept c.args.rows.now (take 0 es) (map (λ v. map int v.items) ks)) (sym c.new-kept.ensures.items) (kept_start c.args.rows.now es);
      table = c.in_ok-table.ensures.1 ∙ sym (ap (λ (ks : List _). map (values_at c.args.rows.now) (map (λ v. map int v.items) ks)) c.new-kept.ensures.items);
      columns = c.in_ok-table.ensures.0 ∙ c.len.ensures;
    }

pub has_any_below-requires : goal.has_any_below-requires
has_any_below-requires g c =
    let int = g.T.Scalar.integer in
    let o = subst (λ (is : List _). AreInOrder c.args.rows.now c.args.candidates.now is (λ c. map int c.entries.items) (λ c. map int c.values.items)) (sym c.deref-candidate-items.ensures.value) (sorted_items int g.T.Ord.cmp g.met.T.Scalar.ordered c.args.rows.now c.args.candidates.now c.args.list.items c.sort.new.self.items (λ c. c.entries.items) (λ c. c.values.items) c.requires.valued c.sort.ensures.permutation c.in-Ok.ensures.sorted) in
    item_long int c.args.rows.now c.args.candidates.now c.deref-candidate-items.result.now (λ c. c.entries.items) (λ c. c.values.items) o c.loop-candidate.candidate-index c.candidate-item.result c.loop-candidate-test.true c.candidate-item.is c.in_ok-values.values (c.in_ok-values.ensures ∙ ap (map int) c.deref-in-loop-candidate.ensures.value) ∙ sym c.loop-candidate.invariant.columns

pub put-requires : goal.put-requires
put-requires g c =
    let int = g.T.Scalar.integer in
    let o = subst (λ (is : List _). AreInOrder c.args.rows.now c.args.candidates.now is (λ c. map int c.entries.items) (λ c. map int c.values.items)) (sym c.deref-candidate-items.ensures.value) (sorted_items int g.T.Ord.cmp g.met.T.Scalar.ordered c.args.rows.now c.args.candidates.now c.args.list.items c.sort.new.self.items (λ c. c.entries.items) (λ c. c.values.items) c.requires.valued c.sort.ensures.permutation c.in-Ok.ensures.sorted) in
    item_long int c.args.rows.now c.args.candidates.now c.deref-candidate-items.result.now (λ c. c.entries.items) (λ c. c.values.items) o c.loop-candidate.candidate-index c.candidate-item.result c.loop-candidate-test.true c.candidate-item.is c.in_ok-values.values (c.in_ok-values.ensures ∙ ap (map int) c.deref-in-loop-candidate.ensures.value) ∙ sym (ap (λ (t : TableLists). t.columns) c.has_any_below.ensures.same ∙ c.loop-candidate.invariant.columns)

pub loop-candidate-preserved-then-are_zero : goal.loop-candidate-preserved-then-are_zero
loop-candidate-preserved-then-are_zero g c =
    let int = g.T.Scalar.integer in
    let o = subst (λ (is : List _). AreInOrder c.args.rows.now c.args.candidates.now is (λ c. map int c.entries.items) (λ c. map int c.values.items)) (sym c.deref-candidate-items.ensures.value) (sorted_items int g.T.Ord.cmp g.met.T.Scalar.ordered c.args.rows.now c.args.candidates.now c.args.list.items c.sort.new.self.items (λ c. c.entries.items) (λ c. c.values.items) c.requires.valued c.sort.ensures.permutation c.in-Ok.ensures.sorted) in
    let z = subst (λ (es : List _). IsZero (map int es)) c.deref.ensures.value c.if-are_zero.ensures in
    record {
      kept = item_zero int c.args.rows.now c.args.candidates.now c.deref-candidate-items.result.now (λ c. c.entries.items) (λ c. c.values.items) o c.loop-candidate.candidate-index c.candidate-item.result c.loop-candidate-test.true c.candidate-item.is c.requires.separated (map (λ v. map int v.items) c.loop-candidate.kept.items) c.loop-candidate.invariant.kept z;
      table = c.loop-candidate.invariant.table;
      columns = c.loop-candidate.invariant.columns;
    }

pub loop-candidate-preserved-then-has_any_below : goal.loop-candidate-preserved-then-has_any_below
loop-candidate-preserved-then-has_any_below g c =
    let int = g.T.Scalar.integer in
    let o = subst (λ (is : List _). AreInOrder c.args.rows.now c.args.candidates.now is (λ c. map int c.entries.items) (λ c. map int c.values.items)) (sym c.deref-candidate-items.ensures.value) (sorted_items int g.T.Ord.cmp g.met.T.Scalar.ordered c.args.rows.now c.args.candidates.now c.args.list.items c.sort.new.self.items (λ c. c.entries.items) (λ c. c.values.items) c.requires.valued c.sort.ensures.permutation c.in-Ok.ensures.sorted) in
    record {
      kept = item_under int c.args.rows.now c.args.candidates.now c.deref-candidate-items.result.now (λ c. c.entries.items) (λ c. c.values.items) o c.loop-candidate.candidate-index c.candidate-item.result c.loop-candidate-test.true c.candidate-item.is c.requires.separated (map (λ v. map int v.items) c.loop-candidate.kept.items) c.loop-candidate.invariant.kept c.loop-candidate.table.rows c.in_ok-values.values c.loop-candidate.invariant.table (c.in_ok-values.ensures ∙ ap (map int) c.deref-in-loop-candidate.ensures.value) c.if-has_any_below.ensures.answer;
      table = ap (λ (t : TableLists). t.rows) c.if-has_any_below.ensures.same ∙ c.loop-candidate.invariant.table;
      columns = ap (λ (t : TableLists). t.columns) c.if-has_any_below.ensures.same ∙ c.loop-candidate.invariant.columns;
    }

pub loop-candidate-preserved : goal.loop-candidate-preserved
loop-candidate-preserved g c =
    let int = g.T.Scalar.integer in
    let o = subst (λ (is : List _). AreInOrder c.args.rows.now c.args.candidates.now is (λ c. map int c.entries.items) (λ c. map int c.values.items)) (sym c.deref-candidate-items.ensures.value) (sorted_items int g.T.Ord.cmp g.met.T.Scalar.ordered c.args.rows.now c.args.candidates.now c.args.list.items c.sort.new.self.items (λ c. c.entries.items) (λ c. c.values.items) c.requires.valued c.sort.ensures.permutation c.in-Ok.ensures.sorted) in
    let ks = (map (λ v. map int v.items) c.loop-candidate.kept.items) in
    let x = map int c.candidate-item.result.entries.items in
    let n = subst (λ (es : List _). ¬ IsZero (map int es)) c.deref.ensures.value c.if-are_zero.ensures in
    let more = ap (map (λ v. map int v.items)) c.in-Ok-push.ensures.items ∙ map-append (λ v. map int v.items) c.loop-candidate.kept.items (c.in-Ok-from_slice.entries ∷ []) ∙ ap (λ (v : Vector). ks ++ v ∷ []) (ap (map int) (c.in-Ok-from_slice.ensures.items ∙ c.deref-in-loop-candidate-2.ensures.value)) in
    record {
      kept = subst (λ (k : List Vector). Kept c.args.rows.now (take (c.loop-candidate.candidate-index + 1) (map (λ c. map int c.entries.items) c.deref-candidate-items.result.now)) k) (sym more) (item_kept int c.args.rows.now c.args.candidates.now c.deref-candidate-items.result.now (λ c. c.entries.items) (λ c. c.values.items) o c.loop-candidate.candidate-index c.candidate-item.result c.loop-candidate-test.true c.candidate-item.is c.requires.separated (map (λ v. map int v.items) c.loop-candidate.kept.items) c.loop-candidate.invariant.kept c.loop-candidate.table.rows c.in_ok-values.values c.loop-candidate.invariant.table (c.in_ok-values.ensures ∙ ap (map int) c.deref-in-loop-candidate.ensures.value) n c.if-has_any_below.ensures.answer);
      table = table_more int c.args.rows.now c.args.candidates.now c.deref-candidate-items.result.now (λ c. c.entries.items) (λ c. c.values.items) o c.loop-candidate.candidate-index c.candidate-item.result c.loop-candidate-test.true c.candidate-item.is c.requires.separated (map (λ v. map int v.items) c.loop-candidate.kept.items) c.loop-candidate.invariant.kept c.loop-candidate.table.rows c.put.new.self.rows c.in_ok-values.values c.loop-candidate.invariant.table (c.in_ok-values.ensures ∙ ap (map int) c.deref-in-loop-candidate.ensures.value) (c.in_ok-put.ensures.ok ∙ ap (λ (t : TableLists). t.rows ++ c.in_ok-values.values ∷ []) c.has_any_below.ensures.same) ∙ sym (ap (map (values_at c.args.rows.now)) more);
      columns = c.in_ok-put.ensures.width ∙ ap (λ (t : TableLists). t.columns) c.has_any_below.ensures.same ∙ c.loop-candidate.invariant.columns;
    }

pub returns : goal.returns
returns g c =
    let int = g.T.Scalar.integer in
    let o = subst (λ (is : List _). AreInOrder c.args.rows.now c.args.candidates.now is (λ c. map int c.entries.items) (λ c. map int c.values.items)) (sym c.deref-candidate-items.ensures.value) (sorted_items int g.T.Ord.cmp g.met.T.Scalar.ordered c.args.rows.now c.args.candidates.now c.args.list.items c.sort.new.self.items (λ c. c.entries.items) (λ c. c.values.items) c.requires.valued c.sort.ensures.permutation c.in-Ok.ensures.sorted) in
    kept_end c.args.rows.now c.args.candidates.now (map (λ c. map int c.entries.items) c.deref-candidate-items.result.now) c.requires.separated o.to o.from c.loop-candidate.candidate-index (omega (arith, c.loop-candidate-test.false, length-map c.deref-candidate-items.result.now (λ c. map int c.entries.items))) (map (λ v. map int v.items) c.loop-candidate.kept.items) c.loop-candidate.invariant.kept
