use Rattle.std.proofs.Common.{List, [], ◌∷◌, subst}
use Rattle.nz_spec.specs.Vectors.{Vector}
use Rattle.nz_spec.proofs.ListLaws.{contains_here}
use Rattle.nz_range.specs.Measures.{AreLargeFor}
use Rattle.nz_range.proofs.Causes.{value_for}
use Rattle.nz_pointed.proofs.RangeLemmas.{large_pivot, large_own, large_left, large_chosen}
use Rattle.nz_pointed.proofs.elimination.Elimination.exchange.Goals as goal

pub returns-in-Err : goal.returns-in-Err
returns-in-Err g c = λ e. large_pivot g.T.Scalar.HALF c.args.form.now c.args.self.now.chosen.items c.args.self.now.left.items c.args.pivot c.remove.result c.requires.within c.remove.ensures.value (c.in-Err.ensures e)

pub returns-in-None : goal.returns-in-None
returns-in-None g c = λ e. large_own g.T.Scalar.HALF c.args.form.now c.args.self.now.chosen.items c.args.self.now.left.items c.args.pivot c.remove.result c.in-Ok.own c.requires.within c.remove.ensures.value c.in-Ok.ensures
    (value_for g.T.Scalar.HALF g.T.Scalar.fits g.met.T.Scalar.room c.args.form.now c.in-Ok.own (c.in-Ok.own ∷ []) (contains_here c.in-Ok.own []) c.in-None.ensures)

pub returns-in-Err-cleared_all : goal.returns-in-Err-cleared_all
returns-in-Err-cleared_all g c = λ e. large_left g.T.Scalar.HALF c.args.form.now c.args.self.now.chosen.items c.args.self.now.left.items c.remove.new.self.items c.args.pivot c.remove.result c.in-Ok.own c.requires.within c.remove.ensures.value c.remove.ensures.items c.in-Ok.ensures
    (subst (λ (vs : List Vector). AreLargeFor g.T.Scalar.HALF c.args.form.now (c.in-Ok.own ∷ vs)) c.as_slice.ensures.value (c.in-Err-cleared_all.ensures e))

pub returns-in-Err-cleared_all-2 : goal.returns-in-Err-cleared_all-2
returns-in-Err-cleared_all-2 g c = λ e. large_chosen g.T.Scalar.HALF c.args.form.now c.args.self.now.chosen.items c.args.self.now.left.items c.args.pivot c.remove.result c.in-Ok.own c.requires.within c.remove.ensures.value c.in-Ok.ensures
    (subst (λ (vs : List Vector). AreLargeFor g.T.Scalar.HALF c.args.form.now (c.in-Ok.own ∷ vs)) c.as_slice-2.ensures.value (c.in-Err-cleared_all-2.ensures e))
