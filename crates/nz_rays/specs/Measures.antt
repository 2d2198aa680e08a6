-- How large the numbers are that a step of double description reckons with.
use Rattle.std.specs.Prelude.{◌⊎◌, List, [], get_or, ℤ, pos, ◌<ℤ◌, Contains}
use Rattle.std.specs.List.{AllByRecursion as Each}
use Rattle.nz_spec.specs.Vectors.{Vector}
use Rattle.nz_scalar.specs.Room.{IsWithin}
use Rattle.nz_range.specs.Measures.{measure, pair_measure}
use Rattle.nz_rays.specs.declared.crossings.Crossing.{Crossing}

-- one of the rays, or the form at one of them, has a measure above the bound
pub record HasLargeRay (bound : ℤ) (form : Vector) (rays : List Vector) : Type 0 where
  pub ray : Vector
  pub has : Contains rays ray
  pub large : (bound <ℤ pos (measure ray)) ⊎ (bound <ℤ pos (pair_measure form ray))

-- both values of a crossing, and the entries of both rays, are within the bound
pub record IsCrossingWithin (bound : ℤ) (values : Vector) (rays : List Vector) (c : Crossing) : Type 0 where
  pub above : IsWithin bound (get_or values c.above (pos 0))
  pub below : IsWithin bound (get_or values c.below (pos 0))
  pub above_ray : Each (IsWithin bound) (get_or rays c.above [])
  pub below_ray : Each (IsWithin bound) (get_or rays c.below [])
