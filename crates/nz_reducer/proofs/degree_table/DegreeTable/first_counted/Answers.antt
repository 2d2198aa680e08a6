use Rattle.std.proofs.Common.{◌≡◌, ◌≢◌, ◌<◌, ◌≤◌, length, map, take, sym, ap, ◌∙◌, subst, arith}
use Rattle.std.proofs.lemmas.List.{length-map}
use Rattle.std.specs.List.{AllByRecursion as Each}
use Rattle.std.specs.Prelude.{Some, None}
use Rattle.std.specs.Rc.{rc_slice_items}
use Rattle.nz_spec.specs.Order.{Pairwise}
use Rattle.nz_reducer.specs.Tables.{TableLists, HasSum, NoneIsBelow, IsFirstBelow, IsNumberCompared}
use Rattle.nz_reducer.specs.Marks.{RisesTo, IsReach, IsSearched}
use Rattle.nz_reducer.proofs.TableLemmas.{long_entries, taken_inside, taken_different, none_below, first_below, none_compared, first_compared}
use Rattle.nz_reducer.proofs.degree_table.DegreeTable.first_counted.Goals as goal

pub reach-reached-requires : goal.reach-reached-requires
reach-reached-requires g c = subst (Pairwise (λ a b. RisesTo g.T.Scalar.integer a.sum b.sum)) (sym c.as_slice.ensures.value) c.self.invariant.1.order

pub search-first-requires-clause-wide : goal.search-first-requires-clause-wide
search-first-requires-clause-wide g c = subst (Each (λ e. length (rc_slice_items e) ≡ length c.args.values.now)) (sym c.as_slice-2.ensures.value) (long_entries g.T.Scalar.integer rc_slice_items c.self.inside.entries.items c.self.inside.columns (length c.args.values.now) c.self.invariant.0 (c.requires ∙ sym (ap (λ (t : TableLists). t.columns) c.self.view_is)))

pub search-first-requires-clause-inside : goal.search-first-requires-clause-inside
search-first-requires-clause-inside g c =
    subst (λ es. Each (λ k. k < length es) (map (λ m. m.place) (take c.reach-reached.result c.deref.result.now))) (sym c.as_slice-2.ensures.value)
    (subst (λ ms. Each (λ k. k < length c.self.inside.entries.items) (map (λ m. m.place) (take c.reach-reached.result ms))) (sym c.deref.ensures.value)
    (taken_inside g.T.Scalar.integer g.T.Scalar.fits (λ m. m.sum) (λ m. m.place) (λ e. map g.T.Scalar.integer (rc_slice_items e)) c.self.inside.entries.items c.self.inside.marks.items c.self.invariant.1 c.reach-reached.result))

pub search-first-requires-clause-different : goal.search-first-requires-clause-different
search-first-requires-clause-different g c =
    subst (λ ms. Pairwise ◌≢◌ (map (λ m. m.place) (take c.reach-reached.result ms))) (sym c.deref.ensures.value)
    (taken_different g.T.Scalar.integer g.T.Scalar.fits (λ m. m.sum) (λ m. m.place) (λ e. map g.T.Scalar.integer (rc_slice_items e)) c.self.inside.entries.items c.self.inside.marks.items c.self.invariant.1 c.reach-reached.result)

pub returns-then-first-len-clause-first : goal.returns-then-first-len-clause-first
returns-then-first-len-clause-first g c =
    let es = c.self.inside.entries.items in
    let ms = c.self.inside.marks.items in
    let n = c.reach-reached.result in
    let r = subst (λ ks. IsReach g.T.Scalar.integer (λ m. m.sum) ks c.sum_of.result n) c.as_slice.ensures.value c.reach-reached.ensures in
    let h = subst (λ xs. IsSearched (map (λ e. map g.T.Scalar.integer (rc_slice_items e)) xs) c.args.values.now (map (λ m. m.place) (take n ms)) c.search-first.result.0 c.search-first.result.1) c.as_slice-2.ensures.value
    (subst (λ ks. IsSearched (map (λ e. map g.T.Scalar.integer (rc_slice_items e)) c.as_slice-2.result.now) c.args.values.now (map (λ m. m.place) (take n ks)) c.search-first.result.0 c.search-first.result.1) c.deref.ensures.value c.search-first.ensures) in
    let l : c.search-first.result.0 < length (map (λ e. map g.T.Scalar.integer (rc_slice_items e)) es) = omega (arith, c.if-first-len.true, c.len.ensures, c.self.inside.entries.ok.0, length-map es (λ e. map g.T.Scalar.integer (rc_slice_items e))) in
    subst (λ rs. IsFirstBelow rs c.args.values.now c.search-first.result.0) (ap (λ (t : TableLists). t.rows) c.self.view_is)
    (first_below g.T.Scalar.integer g.T.Scalar.fits (λ m. m.sum) (λ m. m.place) (map (λ e. map g.T.Scalar.integer (rc_slice_items e)) es) ms c.self.invariant.1 c.args.values.now c.sum_of.result c.sum_of.ensures n r c.search-first.result.0 c.search-first.result.1 h l)

pub returns-then-first-len-clause-compared : goal.returns-then-first-len-clause-compared
returns-then-first-len-clause-compared g c =
    let es = c.self.inside.entries.items in
    let ms = c.self.inside.marks.items in
    let n = c.reach-reached.result in
    let r = subst (λ ks. IsReach g.T.Scalar.integer (λ m. m.sum) ks c.sum_of.result n) c.as_slice.ensures.value c.reach-reached.ensures in
    let h = subst (λ xs. IsSearched (map (λ e. map g.T.Scalar.integer (rc_slice_items e)) xs) c.args.values.now (map (λ m. m.place) (take n ms)) c.search-first.result.0 c.search-first.result.1) c.as_slice-2.ensures.value
    (subst (λ ks. IsSearched (map (λ e. map g.T.Scalar.integer (rc_slice_items e)) c.as_slice-2.result.now) c.args.values.now (map (λ m. m.place) (take n ks)) c.search-first.result.0 c.search-first.result.1) c.deref.ensures.value c.search-first.ensures) in
    let l : c.search-first.result.0 < length (map (λ e. map g.T.Scalar.integer (rc_slice_items e)) es) = omega (arith, c.if-first-len.true, c.len.ensures, c.self.inside.entries.ok.0, length-map es (λ e. map g.T.Scalar.integer (rc_slice_items e))) in
    subst (λ rs. HasSum g.T.Scalar.fits c.args.values.now → IsNumberCompared g.T.Scalar.fits rs c.args.values.now (Some c.search-first.result.0) c.search-first.result.1) (ap (λ (t : TableLists). t.rows) c.self.view_is)
    (first_compared g.T.Scalar.integer g.T.Scalar.fits (λ m. m.sum) (λ m. m.place) (map (λ e. map g.T.Scalar.integer (rc_slice_items e)) es) ms c.self.invariant.1 c.args.values.now c.sum_of.result c.sum_of.ensures n r c.search-first.result.0 c.search-first.result.1 h l)

pub returns-else-first-len-clause-first : goal.returns-else-first-len-clause-first
returns-else-first-len-clause-first g c =
    let es = c.self.inside.entries.items in
    let ms = c.self.inside.marks.items in
    let n = c.reach-reached.result in
    let r = subst (λ ks. IsReach g.T.Scalar.integer (λ m. m.sum) ks c.sum_of.result n) c.as_slice.ensures.value c.reach-reached.ensures in
    let h = subst (λ xs. IsSearched (map (λ e. map g.T.Scalar.integer (rc_slice_items e)) xs) c.args.values.now (map (λ m. m.place) (take n ms)) c.search-first.result.0 c.search-first.result.1) c.as_slice-2.ensures.value
    (subst (λ ks. IsSearched (map (λ e. map g.T.Scalar.integer (rc_slice_items e)) c.as_slice-2.result.now) c.args.values.now (map (λ m. m.place) (take n ks)) c.search-first.result.0 c.search-first.result.1) c.deref.ensures.value c.search-first.ensures) in
    let l : length (map (λ e. map g.T.Scalar.integer (rc_slice_items e)) es) ≤ c.search-first.result.0 = omega (arith, c.if-first-len.false, c.len.ensures, c.self.inside.entries.ok.0, length-map es (λ e. map g.T.Scalar.integer (rc_slice_items e))) in
    subst (λ rs. NoneIsBelow rs c.args.values.now) (ap (λ (t : TableLists). t.rows) c.self.view_is)
    (none_below g.T.Scalar.integer g.T.Scalar.fits (λ m. m.sum) (λ m. m.place) (map (λ e. map g.T.Scalar.integer (rc_slice_items e)) es) ms c.self.invariant.1 c.args.values.now c.sum_of.result c.sum_of.ensures n r c.search-first.result.0 c.search-first.result.1 h l)

pub returns-else-first-len-clause-compared : goal.returns-else-first-len-clause-compared
returns-else-first-len-clause-compared g c =
    let es = c.self.inside.entries.items in
    let ms = c.self.inside.marks.items in
    let n = c.reach-reached.result in
    let r = subst (λ ks. IsReach g.T.Scalar.integer (λ m. m.sum) ks c.sum_of.result n) c.as_slice.ensures.value c.reach-reached.ensures in
    let h = subst (λ xs. IsSearched (map (λ e. map g.T.Scalar.integer (rc_slice_items e)) xs) c.args.values.now (map (λ m. m.place) (take n ms)) c.search-first.result.0 c.search-first.result.1) c.as_slice-2.ensures.value
    (subst (λ ks. IsSearched (map (λ e. map g.T.Scalar.integer (rc_slice_items e)) c.as_slice-2.result.now) c.args.values.now (map (λ m. m.place) (take n ks)) c.search-first.result.0 c.search-first.result.1) c.deref.ensures.value c.search-first.ensures) in
    let l : length (map (λ e. map g.T.Scalar.integer (rc_slice_items e)) es) ≤ c.search-first.result.0 = omega (arith, c.if-first-len.false, c.len.ensures, c.self.inside.entries.ok.0, length-map es (λ e. map g.T.Scalar.integer (rc_slice_items e))) in
    subst (λ rs. HasSum g.T.Scalar.fits c.args.values.now → IsNumberCompared g.T.Scalar.fits rs c.args.values.now None c.search-first.result.1) (ap (λ (t : TableLists). t.rows) c.self.view_is)
    (none_compared g.T.Scalar.integer g.T.Scalar.fits (λ m. m.sum) (λ m. m.place) (map (λ e. map g.T.Scalar.integer (rc_slice_items e)) es) ms c.self.invariant.1 c.args.values.now c.sum_of.result c.sum_of.ensures n r c.search-first.result.0 c.search-first.result.1 h l)
