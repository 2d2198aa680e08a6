use Rattle.std.proofs.Common.{ℕ, length, subst, sym, arith}
use Rattle.std.specs.List.{AllByRecursion as Each}
use Rattle.nz_spec.specs.Vectors.{HasWidth}
use Rattle.nz_spec.specs.Order.{IsLexBefore, IsListOf}
use Rattle.nz_rays.proofs.StartLemmas.{simplex_width, simplex_at_width}
use Rattle.nz_dual.specs.DualStages.{IsElement}
use Rattle.nz_units.proofs.RunLemmas.{run_refused, first_refused}
use Rattle.nz_units.proofs.irreducibles.irreducibles.Goals as goal

pub returns-in-Err-clause-list : goal.returns-in-Err-clause-list
returns-in-Err-clause-list g c = first_refused g.T.Scalar.HALF c.args.limit c.args.rank c.args.rows.now c.in-Err.refusal c.work_of.result c.in-Err.ensures c.work_of.ensures

pub dual-requires-clause-wide : goal.dual-requires-clause-wide
dual-requires-clause-wide g c = subst (λ (w : ℕ). Each (HasWidth w) c.args.rows.now) (simplex_width c.args.rank c.args.rows.now c.in-Ok.simplex.rays c.in-Ok.simplex.places c.in-Ok.ensures) c.requires.wide

pub dual-requires-clause-simplex : goal.dual-requires-clause-simplex
dual-requires-clause-simplex g c = simplex_at_width c.args.rank c.args.rows.now c.in-Ok.simplex.rays c.in-Ok.simplex.places c.in-Ok.ensures

pub returns-in-Ok-dual-clause-list : goal.returns-in-Ok-dual-clause-list
returns-in-Ok-dual-clause-list g c = subst (λ (w : ℕ). IsListOf IsLexBefore (IsElement w c.args.rows.now) c.in-Ok-dual.list) (sym (simplex_width c.args.rank c.args.rows.now c.in-Ok.simplex.rays c.in-Ok.simplex.places c.in-Ok.ensures)) c.in-Ok-dual.ensures.run.0

pub returns-clause-list : goal.returns-clause-list
returns-clause-list g c = run_refused g.T.Scalar.HALF c.args.limit c.args.rank c.in-Some.told c.args.rows.now c.in-Ok.simplex.rays c.in-Ok.simplex.places c.in-Ok.ensures (omega (arith, c.in-Some.ensures, c.len.ensures)) _ _ c.in-Err-dual.refusal c.untold.result c.in-Err-dual.ensures.run c.untold.ensures
