use Rattle.nz_spec.specs.Forms.{IsSupportForm}
use Rattle.nz_spec.proofs.ListLaws.{Each-contains}
use Rattle.nz_linear.proofs.FacetRows.{rays_are_support, support_listed}
use Rattle.nz_linear.proofs.DescribedCone.{described_cone, members_are_last_stage}
use Rattle.nz_linear.proofs.NeededForms.{support_needed}
use Rattle.nz_linear.proofs.support_forms_describe.Goals as goal

pub returns-clause-rays : goal.returns-clause-rays
returns-clause-rays c = λ w G rays columns f l o r. ((λ k. Each-contains (IsSupportForm w G) rays f (rays_are_support w G columns o rays l r) k), (λ s. support_listed w G columns o rays f l r s))

pub returns-clause-describe : goal.returns-clause-describe
returns-clause-describe c = described_cone

pub returns-clause-needed : goal.returns-clause-needed
returns-clause-needed c = support_needed

pub returns-clause-members : goal.returns-clause-members
returns-clause-members c = members_are_last_stage
