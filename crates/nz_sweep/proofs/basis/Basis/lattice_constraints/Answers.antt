use Rattle.std.proofs.Common.{◌≡◌, ◌↔◌, List, sym, subst}
use Rattle.std.specs.Prelude.{IfOk, MatchResult}
use Rattle.std.specs.List.{AllByRecursion as Each}
use Rattle.nz_spec.specs.Vectors.{Vector, HasWidth}
use Rattle.nz_spec.specs.Sums.{IsInGroup}
use Rattle.nz_spec.specs.Constraints.{MeetsAll}
use Rattle.nz_vec.specs.declared.answers.Num.{Num}
use Rattle.nz_vec.specs.declared.answers.Num.TheVariants.{Range}
use Rattle.nz_sweep.specs.Bases.{Base}
use Rattle.nz_sweep.specs.Numbers.{SomeNumberLarge, IsConstraintNumber}
use Rattle.nz_sweep.specs.Generating.{IsEchelon}
use Rattle.nz_sweep.specs.GroupConstraints.{AreGroupConstraints}
use Rattle.nz_sweep.proofs.basis.Basis.lattice_constraints.Goals as goal

pub group_constraints-requires-clause-widths : goal.group_constraints-requires-clause-widths
group_constraints-requires-clause-widths g c = subst (Each (HasWidth c.self.inside.width)) (sym c.as_slice.ensures.value) c.self.invariant.0.widths

pub group_constraints-requires-clause-echelon : goal.group_constraints-requires-clause-echelon
group_constraints-requires-clause-echelon g c = subst IsEchelon (sym c.as_slice.ensures.value) (subst (λ (b : Base). IsEchelon b.vectors) (sym c.self.view_is) c.requires)

pub returns-clause-forms : goal.returns-clause-forms
returns-clause-forms g c =
    subst (λ (b : Base). MatchResult c.group_constraints.result (AreGroupConstraints b.width b.vectors) (λ (e : Num). e ≡ Range → SomeNumberLarge g.T.Scalar.HALF (IsConstraintNumber b.width b.vectors))) c.self.view_is
    (subst (λ (t : List Vector). MatchResult c.group_constraints.result (AreGroupConstraints c.self.inside.width t) (λ (e : Num). e ≡ Range → SomeNumberLarge g.T.Scalar.HALF (IsConstraintNumber c.self.inside.width t))) c.as_slice.ensures.value c.group_constraints.ensures.forms)

pub returns-clause-members : goal.returns-clause-members
returns-clause-members g c =
    subst (λ (b : Base). IfOk c.group_constraints.result (λ k. (x : Vector) → HasWidth b.width x → MeetsAll k x ↔ IsInGroup b.width b.vectors x)) c.self.view_is
    (subst (λ (t : List Vector). IfOk c.group_constraints.result (λ k. (x : Vector) → HasWidth c.self.inside.width x → MeetsAll k x ↔ IsInGroup c.self.inside.width t x)) c.as_slice.ensures.value c.group_constraints.ensures.members)
