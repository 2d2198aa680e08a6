use Rattle.std.proofs.Common.{List, map, sym, ap, ◌∙◌, subst}
use Rattle.std.proofs.lemmas.List.Sorted.{IsPermutation-map}
use Rattle.std.specs.List.Sorted.{IsPermutation}
use Rattle.nz_spec.specs.Vectors.{Vector}
use Rattle.nz_classes.specs.Steps.{IsNotFalling}
use Rattle.nz_classes.proofs.SortLemmas.{not_falling, if_ok}
use Rattle.nz_classes.proofs.found.Found.in_order.Goals as goal

pub returns-clause-permutation : goal.returns-clause-permutation
returns-clause-permutation g c =
    let old = c.self.inside.vectors.keys in
    let new = c.sort.new.self.keys in
    let p = subst (λ (vs : List Vector). IsPermutation vs (map (λ v. map g.T.Scalar.integer v.items) new)) c.self.view_is (IsPermutation-map (λ v. map g.T.Scalar.integer v.items) old new c.in-Ok.ensures.reordered.0) in
    if_ok _ (IsPermutation c.args.self) (λ rows e. subst (IsPermutation c.args.self) (sym (e ∙ ap (map (λ v. map g.T.Scalar.integer v.items)) c.as_slice.ensures.keys)) p) c.rows_of.result c.rows_of.ensures

pub returns-clause-order : goal.returns-clause-order
returns-clause-order g c =
    let new = c.sort.new.self.keys in
    let n = not_falling g.T.Scalar.integer g.T.Ord.cmp g.met.T.Scalar.ordered new (λ v. v.items) c.in-Ok.ensures.sorted in
    if_ok _ IsNotFalling (λ rows e. subst IsNotFalling (sym (e ∙ ap (map (λ v. map g.T.Scalar.integer v.items)) c.as_slice.ensures.keys)) n) c.rows_of.result c.rows_of.ensures
