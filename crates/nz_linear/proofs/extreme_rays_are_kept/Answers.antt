use Rattle.nz_linear.proofs.RayStart.{dual_rays}
use Rattle.nz_linear.proofs.RaySteps.{ray_step}
use Rattle.nz_linear.proofs.Distinct.{no_ray_twice}
use Rattle.nz_linear.proofs.Splitting.{listed_is_ray, ray_is_listed, listed_is_extreme, extreme_is_listed}
use Rattle.nz_linear.proofs.RayExistence.{extreme_rays_exist}
use Rattle.nz_linear.proofs.extreme_rays_are_kept.Goals as goal

pub returns-clause-exist : goal.returns-clause-exist
returns-clause-exist c = λ w rows l pt. let e = extreme_rays_exist w rows l pt in (e.rays, e.are)

pub returns-clause-start : goal.returns-clause-start
returns-clause-start c = dual_rays

pub returns-clause-step : goal.returns-clause-step
returns-clause-step c = ray_step

pub returns-clause-once : goal.returns-clause-once
returns-clause-once c = no_ray_twice

pub returns-clause-extreme : goal.returns-clause-extreme
returns-clause-extreme c = λ w rows rays x pt r. ((λ k. listed_is_extreme w rows rays x pt r k), (λ e. extreme_is_listed w rows rays x pt r e))

pub returns-clause-rays : goal.returns-clause-rays
returns-clause-rays c = λ w rows rays x pt r. ((λ k. listed_is_ray w rows rays x r k), (λ y. ray_is_listed w rows rays x pt r y))
