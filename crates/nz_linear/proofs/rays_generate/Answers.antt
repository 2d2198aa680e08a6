use Rattle.nz_linear.proofs.Farkas.{described, generated, cone_satisfies, swapped}
use Rattle.nz_linear.proofs.rays_generate.Goals as goal

pub returns-clause-exist : goal.returns-clause-exist
returns-clause-exist c = λ w rows l. let d = described w rows l in (d.rays, d.is)

pub returns-clause-generate : goal.returns-clause-generate
returns-clause-generate c = λ w rows rays d x l. (
  (
    (λ s. generated w rows rays x d l s),
    (λ i. cone_satisfies w rows rays x d i),
  ),
  ((λ s. d.farkas x l s), (λ i. cone_satisfies w rays rows x (swapped w rows rays d) i)),
)
