use Rattle.std.proofs.Common.{List, ℕ, subst}
use Rattle.nz_sweep.specs.Bottom.{AreDualEach}
use Rattle.nz_sweep.specs.GroupConstraints.{AreEquationsBefore}
use Rattle.nz_sweep.specs.Numbers.{of_dual_form}
use Rattle.nz_sweep.proofs.NumberLemmas.{some_map}
use Rattle.nz_sweep.proofs.ConstrainingLemmas.{leading_of, divisors_above, are_constraints, members}
use Rattle.nz_sweep.proofs.constraining.group_constraints.Goals as goal

pub returns-in-Ok-with_congruences-clause-forms : goal.returns-in-Ok-with_congruences-clause-forms
returns-in-Ok-with_congruences-clause-forms g c =
    let w = c.args.width in
    let vs = c.args.base.now in
    let wide = c.requires.widths in
    let a = leading_of vs c.in-Ok.columns.items c.requires.echelon c.in-Ok.ensures in
    let e = subst (λ (t : List ℕ). AreEquationsBefore w t vs w c.in-Ok-equations.equations) c.as_slice.ensures.value c.in-Ok-equations.ensures in
    let d = subst (λ (t : List ℕ). AreDualEach w t vs c.in-Ok-dual_coordinates.coordinates.items) c.as_slice-2.ensures.value c.in-Ok-dual_coordinates.ensures in
    let r = c.in-Ok-with_congruences.ensures (divisors_above w c.in-Ok.columns.items vs wide a c.in-Ok-dual_coordinates.coordinates.items d) in
    are_constraints w c.in-Ok.columns.items vs wide a c.in-Ok-dual_coordinates.coordinates.items c.in-Ok-equations.equations d e r.0 c.in-Ok-with_congruences.all r.1 r.2

pub returns-in-Err-dual_coordinates-clause-forms : goal.returns-in-Err-dual_coordinates-clause-forms
returns-in-Err-dual_coordinates-clause-forms g c = λ e. some_map g.T.Scalar.HALF (λ n k. of_dual_form k) (c.in-Err-dual_coordinates.ensures e)

pub returns-in-Ok-with_congruences-clause-members : goal.returns-in-Ok-with_congruences-clause-members
returns-in-Ok-with_congruences-clause-members g c =
    let w = c.args.width in
    let vs = c.args.base.now in
    let wide = c.requires.widths in
    let a = leading_of vs c.in-Ok.columns.items c.requires.echelon c.in-Ok.ensures in
    let e = subst (λ (t : List ℕ). AreEquationsBefore w t vs w c.in-Ok-equations.equations) c.as_slice.ensures.value c.in-Ok-equations.ensures in
    let d = subst (λ (t : List ℕ). AreDualEach w t vs c.in-Ok-dual_coordinates.coordinates.items) c.as_slice-2.ensures.value c.in-Ok-dual_coordinates.ensures in
    let r = c.in-Ok-with_congruences.ensures (divisors_above w c.in-Ok.columns.items vs wide a c.in-Ok-dual_coordinates.coordinates.items d) in
    members w c.in-Ok.columns.items vs wide a c.in-Ok-dual_coordinates.coordinates.items c.in-Ok-equations.equations d e r.0 c.in-Ok-with_congruences.all r.1 r.2
