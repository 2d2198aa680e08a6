use Rattle.std.proofs.Common.{List, map, sym, ap, ◌∙◌, subst}
use Rattle.std.proofs.lemmas.List.Sorted.{IsPermutation-map}
use Rattle.std.specs.List.Sorted.{IsPermutation}
use Rattle.nz_spec.specs.Vectors.{Vector}
use Rattle.nz_reducer.specs.Reducers.{IsNotFalling}
use Rattle.nz_reducer.proofs.Places.{not_falling, next_row, all_rows}
use Rattle.nz_reducer.proofs.irreducible.in_order.Goals as goal

pub loop-entries-preserved : goal.loop-entries-preserved
loop-entries-preserved g c =
    next_row (λ v. map g.T.Scalar.integer v.items) c.deref-entries-items.result.now c.loop-entries.entries-index c.entries-item.result c.loop-entries.rows c.in_ok-row.row c.push.new.self c.loop-entries-test.true c.entries-item.is c.loop-entries.invariant (c.in_ok-row.ensures ∙ ap (map g.T.Scalar.integer) c.deref.ensures.value) c.in_ok-push.ensures.ok

pub returns-clause-permutation : goal.returns-clause-permutation
returns-clause-permutation g c =
    let e = all_rows (λ v. map g.T.Scalar.integer v.items) c.deref-entries-items.result.now c.sort.new.self.items c.loop-entries.entries-index c.loop-entries.rows c.loop-entries-test.false c.loop-entries.invariant c.deref-entries-items.ensures.value in
    subst (λ (rs : List Vector). IsPermutation (map (λ v. map g.T.Scalar.integer v.items) c.args.list.items) rs) (sym e) (IsPermutation-map (λ v. map g.T.Scalar.integer v.items) _ _ c.sort.ensures.permutation)

pub returns-clause-order : goal.returns-clause-order
returns-clause-order g c =
    let e = all_rows (λ v. map g.T.Scalar.integer v.items) c.deref-entries-items.result.now c.sort.new.self.items c.loop-entries.entries-index c.loop-entries.rows c.loop-entries-test.false c.loop-entries.invariant c.deref-entries-items.ensures.value in
    subst IsNotFalling (sym e) (not_falling g.T.Scalar.integer g.T.Ord.cmp g.met.T.Scalar.ordered c.sort.new.self.items (λ v. v.items) c.in-Ok.ensures.sorted)
