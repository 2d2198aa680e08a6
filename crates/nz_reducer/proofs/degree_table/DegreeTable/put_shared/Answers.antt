use Rattle.std.proofs.Common.{◌≡◌, ℕ, [], ◌∷◌, ◌++◌, length, map, sym, ap, ◌∙◌, subst, arith}
use Rattle.std.proofs.lemmas.List.{length-map, map_push}
use Rattle.std.specs.List.{AllByRecursion as Each}
use Rattle.std.specs.Rc.{rc_slice_items}
use Rattle.nz_spec.specs.Vectors.{Vector, HasWidth}
use Rattle.nz_spec.specs.Order.{Pairwise}
use Rattle.nz_order.proofs.OrderLaws.{Each-push}
use Rattle.nz_reducer.specs.Tables.{TableLists}
use Rattle.nz_reducer.specs.Levels.{AreLevels, IsWordOf}
use Rattle.nz_reducer.specs.Marks.{RisesTo, IsSum, IsPosition, AreMarks, HaveWords}
use Rattle.nz_reducer.proofs.TableLemmas.{marks_more, each_more}
use Rattle.nz_reducer.proofs.degree_table.DegreeTable.put_shared.Goals as goal

pub position-index-requires : goal.position-index-requires
position-index-requires g c = subst (Pairwise (λ a b. RisesTo g.T.Scalar.integer a.sum b.sum)) (sym c.as_slice-3.ensures.value) c.self.invariant.1.order

pub word_of-word-requires : goal.word_of-word-requires
word_of-word-requires g c =
    let w = ap length (c.in-Ok.ensures ∙ ap (map g.T.Scalar.integer) c.as_slice.ensures.value) ∙ length-map (rc_slice_items c.args.values.now) g.T.Scalar.integer ∙ c.requires ∙ sym (ap (λ (t : TableLists). t.columns) c.self.view_is) in
    subst (λ ls. AreLevels (λ l. l.column) (length c.in-Ok.row) ls) (sym c.as_slice-2.ensures.value) (subst (λ (n : ℕ). AreLevels (λ l. l.column) n c.self.inside.levels.items) (sym w) c.self.invariant.2)

pub invariant_of-self-2 : goal.invariant_of-self-2
invariant_of-self-2 g c =
    let es = c.self.inside.entries.items in
    let ms = c.self.inside.marks.items in
    let rows = map (λ e. map g.T.Scalar.integer (rc_slice_items e)) es in
    let v = map g.T.Scalar.integer (rc_slice_items c.in-Ok-clone.shared) in
    let same = c.in-Ok-clone.ensures.cases in
    let all = ap (map (λ e. map g.T.Scalar.integer (rc_slice_items e))) (c.push_reserved.ensures.items ∙ ap (λ xs. xs ++ c.in-Ok-clone.shared ∷ []) c.reserve.ensures.items) ∙ map_push (λ e. map g.T.Scalar.integer (rc_slice_items e)) es c.in-Ok-clone.shared in
    let i = subst (λ ks. IsPosition g.T.Scalar.integer (λ m. m.sum) ks c.sum_of-sum.result c.position-index.result) c.as_slice-3.ensures.value c.position-index.ensures in
    let q = subst (λ (x : Vector). IsSum g.T.Scalar.integer g.T.Scalar.fits x c.sum_of-sum.result) (c.in-Ok.ensures ∙ ap (map g.T.Scalar.integer) (c.as_slice.ensures.value ∙ sym same)) c.sum_of-sum.ensures in
    let t = subst (λ ls. IsWordOf (λ l. l.column) (λ l. g.T.Scalar.integer l.value) ls v c.word_of-word.result) c.as_slice-2.ensures.value
    (subst (λ (x : Vector). IsWordOf (λ l. l.column) (λ l. g.T.Scalar.integer l.value) c.as_slice-2.result.now x c.word_of-word.result) (c.in-Ok.ensures ∙ ap (map g.T.Scalar.integer) (c.as_slice.ensures.value ∙ sym same)) c.word_of-word.ensures) in
    let p : c.len-place.result ≡ length rows = omega (arith, c.len-place.ensures, c.reserve.ensures.len, c.self.inside.entries.ok.0, c.reserve.new.self.ok.0, ap length c.reserve.ensures.items, length-map es (λ e. map g.T.Scalar.integer (rc_slice_items e))) in
    let w = ap length (ap (map g.T.Scalar.integer) same) ∙ length-map (rc_slice_items c.args.values.now) g.T.Scalar.integer ∙ c.requires ∙ sym (ap (λ (t : TableLists). t.columns) c.self.view_is) in (
      subst (Each (HasWidth c.self.inside.columns)) (sym all) (Each-push (HasWidth c.self.inside.columns) rows v c.self.invariant.0 w),
      subst (λ rs. AreMarks g.T.Scalar.integer g.T.Scalar.fits (λ m. m.sum) (λ m. m.place) rs c.insert.new.self.items) (sym all)
          (subst (AreMarks g.T.Scalar.integer g.T.Scalar.fits (λ m. m.sum) (λ m. m.place) (rows ++ v ∷ [])) (sym c.in-Ok-insert.ensures.items)
          (marks_more g.T.Scalar.integer g.T.Scalar.fits (λ m. m.sum) (λ m. m.place) rows ms c.self.invariant.1 v (record { sum = c.sum_of-sum.result; place = c.len-place.result; word = c.word_of-word.result }) c.position-index.result i q p)),
      c.self.invariant.2,
      subst (λ rs. HaveWords (λ l. l.column) (λ l. g.T.Scalar.integer l.value) c.self.inside.levels.items (λ m. m.place) (λ m. m.word) rs c.insert.new.self.items) (sym all)
          (subst (HaveWords (λ l. l.column) (λ l. g.T.Scalar.integer l.value) c.self.inside.levels.items (λ m. m.place) (λ m. m.word) (rows ++ v ∷ [])) (sym c.in-Ok-insert.ensures.items)
          (each_more g.T.Scalar.integer g.T.Scalar.fits (λ m. m.sum) (λ m. m.place) rows ms c.self.invariant.1 v (record { sum = c.sum_of-sum.result; place = c.len-place.result; word = c.word_of-word.result }) c.position-index.result i q p
          (λ x m. IsWordOf (λ l. l.column) (λ l. g.T.Scalar.integer l.value) c.self.inside.levels.items x m.word) c.self.invariant.3 t)),
    )
