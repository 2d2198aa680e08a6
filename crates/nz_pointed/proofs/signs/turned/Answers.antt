use Rattle.std.proofs.Common.{inl, [], ◌∷◌}
use Rattle.nz_spec.proofs.ListLaws.{contains_here}
use Rattle.nz_range.proofs.Causes.{value_for}
use Rattle.nz_pointed.proofs.SignLemmas.{turned_by_value}
use Rattle.nz_pointed.proofs.RangeLemmas.{match_map}
use Rattle.nz_pointed.proofs.signs.turned.Goals as goal

pub returns-in-None : goal.returns-in-None
returns-in-None g c = λ e. value_for g.T.Scalar.HALF g.T.Scalar.fits g.met.T.Scalar.room c.args.form.now c.args.row (c.args.row ∷ []) (contains_here c.args.row []) c.in-None.ensures

pub returns-else-is_positive : goal.returns-else-is_positive
returns-else-is_positive g c =
    match_map _ _ _ _ c.opposite.result
    (λ u e. turned_by_value c.args.form.now c.args.row u _ c.in-Some.ensures.1 c.requires.nonzero c.if-is_positive.ensures e)
    (λ e n k. inl (record { vector = c.args.row; named = contains_here c.args.row []; large = n k }))
    c.opposite.ensures
