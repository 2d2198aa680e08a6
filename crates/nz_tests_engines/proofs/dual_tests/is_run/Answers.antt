use Rattle.std.proofs.Common.{ℕ, subst}
use Rattle.std.specs.List.{AllByRecursion as Each}
use Rattle.nz_spec.specs.Vectors.{HasWidth}
use Rattle.nz_pointed.specs.Pointed.{IsAnswer}
use Rattle.nz_dual.proofs.FirstStageLemmas.{own_width, at_own_width}
use Rattle.nz_tests_engines.proofs.dual_tests.is_run.Goals as goal

pub agrees-requires-clause-wide : goal.agrees-requires-clause-wide
agrees-requires-clause-wide g c = subst (λ (n : ℕ). Each (HasWidth n) c.in-Ok.rows) (own_width c.args.case.width c.in-Ok.rows c.in-Simplex.simplex.rays c.in-Simplex.simplex.places (subst (IsAnswer c.args.case.width c.in-Ok.rows) c.in-Simplex.is c.in-Ok-start.ensures)) c.in-Ok.ensures

pub agrees-requires-clause-simplex : goal.agrees-requires-clause-simplex
agrees-requires-clause-simplex g c = at_own_width c.args.case.width c.in-Ok.rows c.in-Simplex.simplex.rays c.in-Simplex.simplex.places (subst (IsAnswer c.args.case.width c.in-Ok.rows) c.in-Simplex.is c.in-Ok-start.ensures)
