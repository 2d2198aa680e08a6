use Rattle.std.proofs.Common.{◌≡◌, ◌∙◌, ℕ, ap, sym, subst, List}
use Rattle.nz_spec.specs.Vectors.{HasWidth}
use Rattle.nz_spec.specs.Constraints.{AreEquationsOf}
use Rattle.nz_vec.specs.declared.answers.Num.TheVariants.{Range}
use Rattle.nz_measures.specs.Sweeps.{IsFirstBase}
use Rattle.nz_measures.specs.Reaches.{HasOwnAbove}
use Rattle.nz_measures.proofs.SystemCauses.{generated_above, equation_above, congruence_above}
use Rattle.nz_frame.proofs.CutLemmas.{err_map, at_least}
use Rattle.std.specs.List.{AllByRecursion as Each}
use Rattle.nz_spec.specs.Systems.{Congruence, IsMultipleBy}
use Rattle.nz_spec.specs.Stages.{IsInLattice}
use Rattle.nz_sweep.specs.Bases.{Base}
use Rattle.nz_sweep.specs.Cuts.{IsCut}
use Rattle.nz_system.specs.Meaning.{SystemData, congruences_of}
use Rattle.nz_frame.specs.Frames.{IsBaseOf, IsInGiven, IsGroupTooLarge, SomeCongruenceLarge}
use Rattle.nz_frame.proofs.LatticeLemmas.{lattice_found, ok_map2}
use Rattle.nz_frame.proofs.lattices.lattice.Goals as goal

pub returns-clause-base : goal.returns-clause-base
returns-clause-base g c =
    let s = c.args.system.now.system in
    let first : IsBaseOf s.width (IsInGiven s.width s.lat) c.in-Ok.first = subst (λ (d : SystemData). IsBaseOf d.system.width (IsInGiven d.system.width d.system.lat) c.in-Ok.first) c.system.view_is c.in-Ok.ensures.base in
    ok_map2 (λ (b : Base). b.width ≡ c.in-Ok-with_equations.cut.width) (λ (b : Base). IsCut (λ x. Each (λ k. IsMultipleBy k x) (congruences_of c.system.inside.cg)) c.in-Ok-with_equations.cut.width c.in-Ok-with_equations.cut.vectors b.vectors) (IsBaseOf s.width (IsInLattice s c.args.equations.now))
    (λ b e k. lattice_found s c.args.equations.now c.in-Ok.first c.in-Ok-with_equations.cut b first c.in-Ok-with_equations.ensures.width c.in-Ok-with_equations.ensures.cut e
    (subst (λ (cg : List Congruence). IsCut (λ x. Each (λ k. IsMultipleBy k x) cg) c.in-Ok-with_equations.cut.width c.in-Ok-with_equations.cut.vectors b.vectors) (ap (λ (d : SystemData). d.system.cg) c.system.view_is) k))
    c.with_congruences.result c.with_congruences.ensures.width c.with_congruences.ensures.cut

pub with_congruences-requires-clause-forms : goal.with_congruences-requires-clause-forms
with_congruences-requires-clause-forms g c =
    let s = c.args.system.now.system in
    let n : c.in-Ok-with_equations.cut.width ≡ s.width = c.in-Ok-with_equations.ensures.width ∙ (subst (λ (d : SystemData). IsBaseOf d.system.width (IsInGiven d.system.width d.system.lat) c.in-Ok.first) c.system.view_is c.in-Ok.ensures.base).width in
    subst (λ (cg : List Congruence). Each (λ (k : Congruence). HasWidth c.in-Ok-with_equations.cut.width k.form) cg) (sym (ap (λ (d : SystemData). d.system.cg) c.system.view_is))
    (subst (λ (w : ℕ). Each (λ (k : Congruence). HasWidth w k.form) s.cg) (sym n) c.kept.ensures.system.cg_width)

pub returns-in-Err-clause-cause : goal.returns-in-Err-clause-cause
returns-in-Err-clause-cause g c = λ e a.
    let k = subst (λ (d : SystemData). IsGroupTooLarge g.T.Scalar.HALF d.system.width d.system.lat) c.system.view_is (c.in-Err.ensures.cause e) in
    generated_above g.T.Scalar.HALF c.args.system.now.system k.list k.same k.large

pub returns-in-Err-with_equations-clause-cause : goal.returns-in-Err-with_equations-clause-cause
returns-in-Err-with_equations-clause-cause g c = λ e a.
    let k = c.in-Err-with_equations.ensures.cause e in
    equation_above g.T.Scalar.HALF c.args.system.now.system c.args.equations.now c.in-Ok.first k.moment k.form (at_least g.met.T.Scalar.room) a
    (subst (λ (d : SystemData). IsFirstBase d.system.width d.system.lat c.in-Ok.first) c.system.view_is c.in-Ok.ensures.first) k.midway k.large

pub returns-clause-cause : goal.returns-clause-cause
returns-clause-cause g c = err_map
    (λ e. e ≡ Range → SomeCongruenceLarge g.T.Scalar.HALF (congruences_of c.system.inside.cg) c.in-Ok-with_equations.cut)
    (λ e. e ≡ Range → AreEquationsOf c.args.system.now.system c.args.equations.now → HasOwnAbove c.args.system.now.system g.T.Scalar.HALF)
    (λ r f e a.
    let k = subst (λ (cg : List Congruence). SomeCongruenceLarge g.T.Scalar.HALF cg c.in-Ok-with_equations.cut) (ap (λ (d : SystemData). d.system.cg) c.system.view_is) (f e) in
    congruence_above g.T.Scalar.HALF c.args.system.now.system c.in-Ok-with_equations.cut k.moment k.congruence (at_least g.met.T.Scalar.room)
    (record { equations = c.args.equations.now; are_equations = a; first = c.in-Ok.first; begins = subst (λ (d : SystemData). IsFirstBase d.system.width d.system.lat c.in-Ok.first) c.system.view_is c.in-Ok.ensures.first; sweeps = c.in-Ok-with_equations.ensures.sweeps })
    k.midway k.large)
    c.with_congruences.result c.with_congruences.ensures.cause
