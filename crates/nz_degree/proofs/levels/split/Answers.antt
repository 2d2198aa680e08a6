use Rattle.std.proofs.Common.{ℤ, true, subst}
use Rattle.nz_order.specs.Picks.{Picks}
use Rattle.nz_degree.specs.Levels.{IsOnSide}
use Rattle.nz_degree.proofs.levels.split.Goals as goal

pub returns-clause-zero : goal.returns-clause-zero
returns-clause-zero g c = subst (λ (l : ℤ). Picks (IsOnSide true l) c.args.list.now c.in_ok-zero.zero) c.of_i64.ensures c.in_ok-zero.ensures

pub returns-clause-one : goal.returns-clause-one
returns-clause-one g c = subst (λ (l : ℤ). Picks (IsOnSide true l) c.args.list.now c.in_ok-one.one) c.of_i64-2.ensures c.in_ok-one.ensures
