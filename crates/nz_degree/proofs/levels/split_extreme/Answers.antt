use Rattle.std.proofs.Common.{ℤ, true, false, subst}
use Rattle.nz_order.specs.Picks.{Picks}
use Rattle.nz_degree.specs.Levels.{IsOnSide}
use Rattle.nz_degree.proofs.levels.split_extreme.Goals as goal

pub returns-clause-rays : goal.returns-clause-rays
returns-clause-rays g c = subst (λ (l : ℤ). Picks (IsOnSide true l) c.args.list.now c.in_ok-rays.rays) c.of_i64.ensures c.in_ok-rays.ensures

pub returns-clause-vertices : goal.returns-clause-vertices
returns-clause-vertices g c = subst (λ (l : ℤ). Picks (IsOnSide false l) c.args.list.now c.in_ok-vertices.vertices) c.of_i64-2.ensures c.in_ok-vertices.ensures
