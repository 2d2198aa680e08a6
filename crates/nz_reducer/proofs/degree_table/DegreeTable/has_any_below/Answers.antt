use Rattle.std.proofs.Common.{ℕ, ◌≡◌, ◌<◌, length, map, take, sym, ap, ◌∙◌, subst}
use Rattle.std.specs.List.{AllByRecursion as Each}
use Rattle.std.specs.Prelude.{MatchBool}
use Rattle.std.specs.Rc.{rc_slice_items}
use Rattle.nz_spec.specs.Order.{Pairwise}
use Rattle.nz_reducer.specs.Tables.{TableLists, NoneIsBelow, HasAnyBelow}
use Rattle.nz_reducer.specs.Marks.{RisesTo, IsReach, TellWords, IsOneUnder, NoneOfMarked}
use Rattle.nz_reducer.specs.Levels.{AreLevels, IsWordOf}
use Rattle.nz_reducer.proofs.LevelLemmas.{told_taken}
use Rattle.nz_reducer.proofs.TableLemmas.{long_entries, taken_within, any_reached, none_reached, both_ways}
use Rattle.nz_reducer.proofs.degree_table.DegreeTable.has_any_below.Goals as goal

pub reach-reached-requires : goal.reach-reached-requires
reach-reached-requires g c = subst (Pairwise (λ a b. RisesTo g.T.Scalar.integer a.sum b.sum)) (sym c.as_slice.ensures.value) c.self.invariant.1.order

pub word_of-word-requires : goal.word_of-word-requires
word_of-word-requires g c =
    let w = c.requires ∙ sym (ap (λ (t : TableLists). t.columns) c.self.view_is) in
    subst (λ ls. AreLevels (λ l. l.column) (length c.args.values.now) ls) (sym c.as_slice-2.ensures.value) (subst (λ (n : ℕ). AreLevels (λ l. l.column) n c.self.inside.levels.items) (sym w) c.self.invariant.2)

pub is_one_under-requires-clause-wide : goal.is_one_under-requires-clause-wide
is_one_under-requires-clause-wide g c = subst (Each (λ e. length (rc_slice_items e) ≡ length c.args.values.now)) (sym c.as_slice-3.ensures.value) (long_entries g.T.Scalar.integer rc_slice_items c.self.inside.entries.items c.self.inside.columns (length c.args.values.now) c.self.invariant.0 (c.requires ∙ sym (ap (λ (t : TableLists). t.columns) c.self.view_is)))

pub is_one_under-requires-clause-inside : goal.is_one_under-requires-clause-inside
is_one_under-requires-clause-inside g c =
    subst (λ es. Each (λ m. m.place < length es) (take c.reach-reached.result c.deref.result.now)) (sym c.as_slice-3.ensures.value)
    (subst (λ ms. Each (λ m. m.place < length c.self.inside.entries.items) (take c.reach-reached.result ms)) (sym c.deref.ensures.value)
    (taken_within g.T.Scalar.integer g.T.Scalar.fits (λ m. m.sum) (λ m. m.place) (λ e. map g.T.Scalar.integer (rc_slice_items e)) c.self.inside.entries.items c.self.inside.marks.items c.self.invariant.1 c.reach-reached.result))

pub is_one_under-requires-clause-words : goal.is_one_under-requires-clause-words
is_one_under-requires-clause-words g c =
    let int = g.T.Scalar.integer in
    let es = c.self.inside.entries.items in
    let ms = c.self.inside.marks.items in
    let x = c.args.values.now in
    let w = c.word_of-word.result in
    let h = subst (λ ls. IsWordOf (λ l. l.column) (λ l. int l.value) ls x w) c.as_slice-2.ensures.value c.word_of-word.ensures in
    subst (λ rs. TellWords (λ m. m.place) (λ m. m.word) (map (λ e. map int (rc_slice_items e)) rs) x w (take c.reach-reached.result c.deref.result.now)) (sym c.as_slice-3.ensures.value)
    (subst (λ ks. TellWords (λ m. m.place) (λ m. m.word) (map (λ e. map int (rc_slice_items e)) es) x w (take c.reach-reached.result ks)) (sym c.deref.ensures.value)
    (told_taken (λ l. l.column) (λ l. int l.value) c.self.inside.levels.items (λ m. m.place) (λ m. m.word) (map (λ e. map int (rc_slice_items e)) es) ms c.self.invariant.3 x w h c.reach-reached.result))

pub returns-clause-answer : goal.returns-clause-answer
returns-clause-answer g c =
    let int = g.T.Scalar.integer in
    let es = c.self.inside.entries.items in
    let ms = c.self.inside.marks.items in
    let rows = map (λ e. map int (rc_slice_items e)) es in
    let n = c.reach-reached.result in
    let x = c.args.values.now in
    let r = subst (λ ks. IsReach int (λ m. m.sum) ks c.sum_of.result n) c.as_slice.ensures.value c.reach-reached.ensures in
    let h = subst (λ rs. MatchBool c.is_one_under.result (IsOneUnder (λ m. m.place) (map (λ e. map int (rc_slice_items e)) rs) x (take n ms)) (NoneOfMarked (λ m. m.place) (map (λ e. map int (rc_slice_items e)) rs) x (take n ms))) c.as_slice-3.ensures.value
    (subst (λ ks. MatchBool c.is_one_under.result (IsOneUnder (λ m. m.place) (map (λ e. map int (rc_slice_items e)) c.as_slice-3.result.now) x (take n ks)) (NoneOfMarked (λ m. m.place) (map (λ e. map int (rc_slice_items e)) c.as_slice-3.result.now) x (take n ks))) c.deref.ensures.value c.is_one_under.ensures) in
    subst (λ rs. MatchBool c.is_one_under.result (HasAnyBelow rs x) (NoneIsBelow rs x)) (ap (λ (t : TableLists). t.rows) c.self.view_is)
    (both_ways c.is_one_under.result _ _ _ _ (any_reached int g.T.Scalar.fits (λ m. m.sum) (λ m. m.place) rows ms c.self.invariant.1 x c.sum_of.result c.sum_of.ensures n r) (none_reached int g.T.Scalar.fits (λ m. m.sum) (λ m. m.place) rows ms c.self.invariant.1 x c.sum_of.result c.sum_of.ensures n r) h)
