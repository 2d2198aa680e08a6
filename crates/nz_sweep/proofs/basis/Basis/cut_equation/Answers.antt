use Rattle.std.proofs.Common.{◌≡◌, pos, List, subst}
use Rattle.nz_spec.specs.Vectors.{Vector, dot}
use Rattle.nz_sweep.specs.Bases.{Base}
use Rattle.nz_sweep.specs.Duals.{Coordinate}
use Rattle.nz_sweep.specs.Numbers.{SomeNumberLarge, IsEquationNumber}
use Rattle.nz_sweep.specs.Rounds.{IsEquationMove}
use Rattle.nz_sweep.specs.Cuts.{IsCut, IsEquationStep}
use Rattle.nz_sweep.proofs.StepLemmas.{equation_step_cuts}
use Rattle.nz_sweep.proofs.basis.Basis.cut_equation.Goals as goal

pub invariant_of-self : goal.invariant_of-self
invariant_of-self g c =
    let cut = equation_step_cuts c.self.inside.width c.args.form.now c.self.inside.base.items c.in-Ok.cut.base.items c.self.invariant.0.widths c.self.invariant.0.independent (subst (λ (t : List Vector). IsEquationStep c.args.form.now t c.in-Ok.cut.base.items) c.as_slice-base.ensures.value c.in-Ok.ensures.step) in
    (record { widths = cut.widths; independent = cut.independent }, c.in-Ok.ensures.dual)

pub returns-in-Ok-clause-cut : goal.returns-in-Ok-clause-cut
returns-in-Ok-clause-cut g c =
    subst (λ (b : Base). IsCut (λ x. dot c.args.form.now x ≡ pos 0) b.width b.vectors c.in-Ok.cut.base.items) c.self.view_is
    (equation_step_cuts c.self.inside.width c.args.form.now c.self.inside.base.items c.in-Ok.cut.base.items c.self.invariant.0.widths c.self.invariant.0.independent (subst (λ (t : List Vector). IsEquationStep c.args.form.now t c.in-Ok.cut.base.items) c.as_slice-base.ensures.value c.in-Ok.ensures.step))

pub returns-in-Ok-clause-state : goal.returns-in-Ok-clause-state
returns-in-Ok-clause-state g c =
    subst (λ (b : Base). IsEquationMove c.args.form.now b (record { width = c.self.inside.width; vectors = c.in-Ok.cut.base.items; coordinates = c.in-Ok.cut.coordinates.items })) c.self.view_is
    (subst (λ (t : List Vector). IsEquationMove c.args.form.now (record { width = c.self.inside.width; vectors = t; coordinates = c.self.inside.coordinates.items }) (record { width = c.self.inside.width; vectors = c.in-Ok.cut.base.items; coordinates = c.in-Ok.cut.coordinates.items })) c.as_slice-base.ensures.value
    (subst (λ (t : List Coordinate). IsEquationMove c.args.form.now (record { width = c.self.inside.width; vectors = c.as_slice-base.result.now; coordinates = t }) (record { width = c.self.inside.width; vectors = c.in-Ok.cut.base.items; coordinates = c.in-Ok.cut.coordinates.items })) c.as_slice-coordinates.ensures.value c.in-Ok.ensures.state))

pub returns-in-Err-clause-cause : goal.returns-in-Err-clause-cause
returns-in-Err-clause-cause g c =
    λ e. subst (λ (b : Base). SomeNumberLarge g.T.Scalar.HALF (IsEquationNumber c.args.form.now b)) c.self.view_is
    (subst (λ (t : List Vector). SomeNumberLarge g.T.Scalar.HALF (IsEquationNumber c.args.form.now (record { width = c.self.inside.width; vectors = t; coordinates = c.self.inside.coordinates.items }))) c.as_slice-base.ensures.value
    (subst (λ (t : List Coordinate). SomeNumberLarge g.T.Scalar.HALF (IsEquationNumber c.args.form.now (record { width = c.self.inside.width; vectors = c.as_slice-base.result.now; coordinates = t }))) c.as_slice-coordinates.ensures.value (c.in-Err.ensures.state e)))
