-- The rays of a list of rows, and one step of the double description as a program takes it.
use Rattle.std.specs.Prelude.{◌≡◌, ◌≢◌, ◌⊎◌, ℕ, List, pos, ◌≤ℤ◌, ◌<ℤ◌, Contains}
use Rattle.std.specs.List.{AllByRecursion as Each}
use Rattle.nz_spec.specs.Vectors.{Vector, dot, IsPrimitive}
use Rattle.nz_linear.specs.Cones.{IsDoubleDescription, meet}
use Rattle.nz_linear.specs.Division.{IsPrimitiveOf}
use Rattle.nz_linear.specs.DoubleDescription.{IsExtremeByZeros, AreAdjacent}

-- the rays describe the rows; each is primitive and extreme
pub record AreExtremeRays (w : ℕ) (rows rays : List Vector) : Type 0 where
  pub description : IsDoubleDescription w rows rays
  pub primitive : Each IsPrimitive rays
  pub extreme : Each (IsExtremeByZeros w rows) rays

-- x is the primitive vector of the sum of an adjacent pair on both sides of h
pub record IsFromPair (h : Vector) (rows rays : List Vector) (x : Vector) : Type 0 where
  pub p : Vector
  pub n : Vector
  pub has_p : Contains rays p
  pub has_n : Contains rays n
  pub above : pos 0 <ℤ dot h p
  pub below : dot h n <ℤ pos 0
  pub adjacent : AreAdjacent rows rays p n
  pub is : IsPrimitiveOf (meet h p n) x

-- a ray above and a ray below
pub record RayPair : Type 0 where
  pub above : Vector
  pub below : Vector

-- an adjacent pair of the rays, on both sides of h
pub record IsAdjacentPair (h : Vector) (rows rays : List Vector) (pair : RayPair) : Type 0 where
  pub has_above : Contains rays pair.above
  pub has_below : Contains rays pair.below
  pub over : pos 0 <ℤ dot h pair.above
  pub under : dot h pair.below <ℤ pos 0
  pub adjacent : AreAdjacent rows rays pair.above pair.below

-- a ray of the list on h's side
pub record IsKept (h : Vector) (rays : List Vector) (x : Vector) : Type 0 where
  pub has : Contains rays x
  pub side : pos 0 ≤ℤ dot h x

-- the primitive vector of the sum is in the list
pub record HasSum (h p n : Vector) (cut : List Vector) : Type 0 where
  pub ray : Vector
  pub has : Contains cut ray
  pub is : IsPrimitiveOf (meet h p n) ray

-- another ray vanishes at all rows at which p and n do
pub record HasOther (rows rays : List Vector) (p n : Vector) : Type 0 where
  pub ray : Vector
  pub has : Contains rays ray
  pub not_p : p ≢ ray
  pub not_n : n ≢ ray
  pub vanishes : Each (λ a. dot a p ≡ pos 0 → dot a n ≡ pos 0 → dot a ray ≡ pos 0) rows

-- the list after h: it has only rays kept and sums of adjacent pairs, it has each ray on h's side, and for two rays on both sides it has their sum, or another ray makes it needless
pub record IsRayStep (h : Vector) (rows rays cut : List Vector) : Type 0 where
  pub only : Each (λ x. IsKept h rays x ⊎ IsFromPair h rows rays x) cut
  pub keeps : Each (λ r. pos 0 ≤ℤ dot h r → Contains cut r) rays
  pub pairs : Each (λ n. Each (λ p. dot h n <ℤ pos 0 → pos 0 <ℤ dot h p → HasSum h p n cut ⊎ HasOther rows rays p n) rays) rays
