use Rattle.std.proofs.Common.{Bool, ◌∷◌, sym, subst}
use Rattle.std.specs.Prelude.{MatchBool}
use Rattle.nz_spec.specs.Order.{IsLexBefore}
use Rattle.nz_degree.proofs.Firsts.{before_or_not}
use Rattle.nz_degree.proofs.checking.stands_before.Goals as goal

pub returns : goal.returns
returns g c =
    let x = g.T.Scalar.integer c.args.du ∷ c.args.u.now in
    let y = g.T.Scalar.integer c.args.dv ∷ c.args.v.now in
    subst (λ (b : Bool). MatchBool b (IsLexBefore x y) (¬ IsLexBefore x y)) (sym c.is_lt.ensures) (before_or_not x y c.cmp_order.result c.cmp_order.ensures)
