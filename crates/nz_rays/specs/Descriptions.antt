-- A cone by its rows and by its rays, and the rows that are 0 at each ray.
use Rattle.std.specs.Prelude.{◌≡◌, ◌≢◌, ℕ, ◌<◌, List, [], length, get_or, pos}
use Rattle.std.specs.List.{AllZip}
use Rattle.nz_spec.specs.Vectors.{Vector, dot}
use Rattle.nz_spec.specs.Order.{Pairwise, IsListOf, ListsOnce}
use Rattle.nz_spec.specs.Monoids.{IsExtremeRay}
use Rattle.nz_linear.specs.Cones.{IsInRows}
use Rattle.nz_linear.specs.Extreme.{IsPointed}
use Rattle.nz_linear.specs.RayStep.{AreExtremeRays}

-- the rows so far, forms on vectors of one width, and rays
pub record RowsAndRays : Type 0 where
  pub width : ℕ
  pub rows : List Vector
  pub rays : List Vector

-- the rays are exactly the primitive extreme rays of the cone where all rows are at least 0, each once
abbrev pub ListsRays : RowsAndRays → Type 0
ListsRays d = ListsOnce (IsExtremeRay (IsInRows d.width d.rows)) d.rays

-- the rows are all 0 only at 0, and the rays, each there once, describe the cone of the rows
pub record IsDescription (d : RowsAndRays) : Type 0 where
  pub pointed : IsPointed d.width d.rows
  pub extreme : AreExtremeRays d.width d.rows d.rays
  pub once : Pairwise ◌≢◌ d.rays

-- there is a row at this place, and it is 0 at x
pub record VanishesAt (rows : List Vector) (x : Vector) (place : ℕ) : Type 0 where
  pub within : place < length rows
  pub zero : dot (get_or rows place []) x ≡ pos 0

-- the places of the rows that are 0 at x, increasing
abbrev pub AreZeros : List Vector → Vector → List ℕ → Type 0
AreZeros rows x places = IsListOf ◌<◌ (VanishesAt rows x) places

-- a description, and for each ray the places of the rows that are 0 at it
pub record IsDouble (d : RowsAndRays) (zeros : List (List ℕ)) : Type 0 where
  pub description : IsDescription d
  pub exact : AllZip (AreZeros d.rows) d.rays zeros
