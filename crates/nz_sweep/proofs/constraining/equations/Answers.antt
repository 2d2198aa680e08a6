use Rattle.std.proofs.Common.{◌≡◌, ℕ, List, sym, subst, arith}
use Rattle.nz_spec.specs.Constraints.{Constraint}
use Rattle.nz_sweep.specs.GroupConstraints.{AreEquationsBefore}
use Rattle.nz_sweep.proofs.ConstrainingLemmas.{no_equations}
use Rattle.nz_sweep.proofs.constraining.equations.Goals as goal

pub loop-column-init : goal.loop-column-init
loop-column-init g c = (omega arith, subst (λ (t : List Constraint). AreEquationsBefore c.args.width c.args.columns.now c.args.base.now 0 t) (sym c.new-list.ensures) (no_equations c.args.width c.args.columns.now c.args.base.now c.requires.widths c.requires.leading))

pub loop-column-preserved : goal.loop-column-preserved
loop-column-preserved g c = (omega (arith, c.loop-column-test.true), c.in-Ok.ensures)

pub returns : goal.returns
returns g c =
    let e : c.loop-column.column ≡ c.args.width = omega (arith, c.loop-column.invariant.0, c.loop-column-test.false) in
    subst (λ (k : ℕ). AreEquationsBefore c.args.width c.args.columns.now c.args.base.now k c.loop-column.list) e c.loop-column.invariant.1
