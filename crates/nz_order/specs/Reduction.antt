-- When one vector reduces another.
use Rattle.std.specs.Prelude.{◌≢◌}
use Rattle.nz_spec.specs.Vectors.{Vector, minus, IsNonzero}

-- v is nonzero, is not u, and u - v is a member
pub record Reduces (Member : Vector → Type 0) (v u : Vector) : Type 0 where
  pub nonzero : IsNonzero v
  pub other : v ≢ u
  pub left : Member (minus u v)
