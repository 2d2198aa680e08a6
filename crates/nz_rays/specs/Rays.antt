-- The extreme rays of rows, each once.
use Rattle.std.specs.Prelude.{◌≢◌, ℕ, List}
use Rattle.nz_spec.specs.Vectors.{Vector}
use Rattle.nz_spec.specs.Order.{Pairwise}
use Rattle.nz_linear.specs.RayStep.{AreExtremeRays}

-- the rays are extreme and describe the cone of the rows, and none is there twice
pub record AreRaysOnce (w : ℕ) (rows rays : List Vector) : Type 0 where
  pub extreme : AreExtremeRays w rows rays
  pub once : Pairwise ◌≢◌ rays
