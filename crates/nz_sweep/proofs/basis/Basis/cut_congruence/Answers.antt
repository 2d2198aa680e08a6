use Rattle.std.proofs.Common.{List, subst}
use Rattle.nz_spec.specs.Vectors.{Vector, dot, IsMultipleOf}
use Rattle.nz_sweep.specs.Bases.{Base}
use Rattle.nz_sweep.specs.Duals.{Coordinate}
use Rattle.nz_sweep.specs.Numbers.{SomeNumberLarge, IsCongruenceNumber}
use Rattle.nz_sweep.specs.Rounds.{IsCongruenceMove}
use Rattle.nz_sweep.specs.Cuts.{IsCut, IsCongruenceStep}
use Rattle.nz_sweep.proofs.StepLemmas.{congruence_step_cuts}
use Rattle.nz_sweep.proofs.basis.Basis.cut_congruence.Goals as goal

pub invariant_of-self : goal.invariant_of-self
invariant_of-self g c =
    let m = g.T.Scalar.integer c.args.modulus in
    let cut = congruence_step_cuts c.self.inside.width c.args.form.now m c.self.inside.base.items c.in-Ok.cut.base.items c.self.invariant.0.widths c.self.invariant.0.independent c.requires.modulus (subst (λ (t : List Vector). IsCongruenceStep c.args.form.now m t c.in-Ok.cut.base.items) c.as_slice-base.ensures.value c.in-Ok.ensures.step) in
    (record { widths = cut.widths; independent = cut.independent }, c.in-Ok.ensures.dual)

pub returns-in-Ok-clause-cut : goal.returns-in-Ok-clause-cut
returns-in-Ok-clause-cut g c =
    let m = g.T.Scalar.integer c.args.modulus in
    subst (λ (b : Base). IsCut (λ x. IsMultipleOf m (dot c.args.form.now x)) b.width b.vectors c.in-Ok.cut.base.items) c.self.view_is
    (congruence_step_cuts c.self.inside.width c.args.form.now m c.self.inside.base.items c.in-Ok.cut.base.items c.self.invariant.0.widths c.self.invariant.0.independent c.requires.modulus (subst (λ (t : List Vector). IsCongruenceStep c.args.form.now m t c.in-Ok.cut.base.items) c.as_slice-base.ensures.value c.in-Ok.ensures.step))

pub returns-in-Ok-clause-state : goal.returns-in-Ok-clause-state
returns-in-Ok-clause-state g c =
    subst (λ (b : Base). IsCongruenceMove c.args.form.now (g.T.Scalar.integer c.args.modulus) b (record { width = c.self.inside.width; vectors = c.in-Ok.cut.base.items; coordinates = c.in-Ok.cut.coordinates.items })) c.self.view_is
    (subst (λ (t : List Vector). IsCongruenceMove c.args.form.now (g.T.Scalar.integer c.args.modulus) (record { width = c.self.inside.width; vectors = t; coordinates = c.self.inside.coordinates.items }) (record { width = c.self.inside.width; vectors = c.in-Ok.cut.base.items; coordinates = c.in-Ok.cut.coordinates.items })) c.as_slice-base.ensures.value
    (subst (λ (t : List Coordinate). IsCongruenceMove c.args.form.now (g.T.Scalar.integer c.args.modulus) (record { width = c.self.inside.width; vectors = c.as_slice-base.result.now; coordinates = t }) (record { width = c.self.inside.width; vectors = c.in-Ok.cut.base.items; coordinates = c.in-Ok.cut.coordinates.items })) c.as_slice-coordinates.ensures.value c.in-Ok.ensures.state))

pub returns-in-Err-clause-cause : goal.returns-in-Err-clause-cause
returns-in-Err-clause-cause g c =
    λ e. subst (λ (b : Base). SomeNumberLarge g.T.Scalar.HALF (IsCongruenceNumber c.args.form.now (g.T.Scalar.integer c.args.modulus) b)) c.self.view_is
    (subst (λ (t : List Vector). SomeNumberLarge g.T.Scalar.HALF (IsCongruenceNumber c.args.form.now (g.T.Scalar.integer c.args.modulus) (record { width = c.self.inside.width; vectors = t; coordinates = c.self.inside.coordinates.items }))) c.as_slice-base.ensures.value
    (subst (λ (t : List Coordinate). SomeNumberLarge g.T.Scalar.HALF (IsCongruenceNumber c.args.form.now (g.T.Scalar.integer c.args.modulus) (record { width = c.self.inside.width; vectors = c.as_slice-base.result.now; coordinates = t }))) c.as_slice-coordinates.ensures.value (c.in-Err.ensures.state e)))
