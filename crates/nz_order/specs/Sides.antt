-- The two sides of a row in a monoid.
use Rattle.std.specs.Prelude.{◌≡◌, ℤ, pos, ◌≤ℤ◌, ◌<ℤ◌}
use Rattle.nz_spec.specs.Vectors.{Vector, dot, plus}
use Rattle.nz_spec.specs.Monoids.{IsIrreducible}

-- a member at which the row is at least 0
pub record IsAbove (Member : Vector → Type 0) (row x : Vector) : Type 0 where
  pub member : Member x
  pub at_least : pos 0 ≤ℤ dot row x

-- a member at which the row is at most 0
pub record IsBeneath (Member : Vector → Type 0) (row x : Vector) : Type 0 where
  pub member : Member x
  pub at_most : dot row x ≤ℤ pos 0

-- an irreducible of a side, of degree below t
pub record IsLower (Side : Vector → Type 0) (form : Vector) (t : ℤ) (v : Vector) : Type 0 where
  pub irreducible : IsIrreducible Side v
  pub below : dot form v <ℤ t

-- x is the sum of an irreducible above the row and one beneath it, both of degree below t
pub record IsPairSum (Member : Vector → Type 0) (row form : Vector) (t : ℤ) (x : Vector) : Type 0 where
  pub upper : Vector
  pub lower : Vector
  pub above : IsLower (IsAbove Member row) form t upper
  pub beneath : IsLower (IsBeneath Member row) form t lower
  pub positive : pos 0 <ℤ dot row upper
  pub negative : dot row lower <ℤ pos 0
  pub same : plus upper lower ≡ x
