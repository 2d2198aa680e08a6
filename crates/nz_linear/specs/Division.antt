-- Greatest common divisors and primitive vectors.
use Rattle.std.specs.Prelude.{◌≡◌, ℤ, pos, ◌≤ℤ◌, ◌<ℤ◌}
use Rattle.std.specs.List.{AllByRecursion as Each}
use Rattle.nz_spec.specs.Vectors.{Vector, dot, scaled, IsMultipleOf, IsPrimitive}

-- g divides each entry, and is a combination of them
pub record IsGcdOf (g : ℤ) (xs : Vector) : Type 0 where
  pub nonneg : pos 0 ≤ℤ g
  pub divides : Each (IsMultipleOf g) xs
  pub factors : Vector
  pub same : g ≡ dot factors xs

-- some form has the value 1 at x
pub record HasUnitValue (x : Vector) : Type 0 where
  pub form : Vector
  pub one : dot form x ≡ pos 1

-- y is x divided by the greatest common divisor of its entries
pub record IsPrimitiveOf (x y : Vector) : Type 0 where
  pub factor : ℤ
  pub positive : pos 0 <ℤ factor
  pub same : scaled factor y ≡ x
  pub primitive : IsPrimitive y
