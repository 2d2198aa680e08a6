-- What is answered of rows and a level, and why there is no answer.
use Rattle.std.specs.Prelude.{◌≡◌, ◌⊎◌, ⊤, ℕ, ◌≤◌, List, length, ℤ}
use Rattle.nz_spec.specs.Vectors.{Vector, opposite}
use Rattle.nz_spec.specs.Order.{IsLexBefore, IsListOf}
use Rattle.nz_spec.specs.Forms.{IsNormalForm}
use Rattle.nz_further.specs.Shadows.{AreBounded, IsLatticePoint, IsUnboundedAlong}
use Rattle.nz_further.specs.Crowds.{IsPointCrowd}
use Rattle.nz_sweep.specs.Numbers.{SomeNumberLarge}
use Rattle.nz_vec.specs.declared.answers.Work.{Work}
use Rattle.nz_vec.specs.declared.answers.Work.TheVariants.{Range, TooMany, Stopped, NoMemory}
use Rattle.nz_lift.specs.declared.points.Lifted.{Lifted}
use Rattle.nz_lift.specs.declared.points.Lifted.TheVariants.{Points, Unbounded}
use Rattle.nz_lift.specs.LiftNumbers.{IsLiftNumber}

-- only 0 has the level 0, and the list has just the lattice points, lexicographically, no more than the limit
pub record AreAllPoints (limit w : ℕ) (rows : List Vector) (level : Vector) (points : List Vector) : Type 0 where
  pub bounded : AreBounded w rows level
  pub list : IsListOf IsLexBefore (IsLatticePoint w rows level) points
  pub within : length points ≤ limit

-- v is primitive and of level 0, with all rows at least 0, and v or its opposite is a normal form of the rows
pub record IsUnboundedBy (w : ℕ) (rows : List Vector) (level v : Vector) : Type 0 where
  pub along : IsUnboundedAlong w rows level v
  pub normal : IsNormalForm w rows v ⊎ IsNormalForm w rows (opposite v)

-- the lattice points of bounded rows, or else a vector that shows that they are not bounded
abbrev pub IsLifted : {T : Type 0} → ℕ → ℕ → (rows : List Vector) → (level : Vector) → Lifted T → Type 0
IsLifted limit w rows level (Points xs) = AreAllPoints limit w rows level xs
IsLifted limit w rows level (Unbounded v) = IsUnboundedBy w rows level v

-- a named number is above the bound, or a shadow of bounded rows has more vectors than the limit, or no memory
abbrev pub IsLiftRefusal : ℤ → ℕ → ℕ → (rows : List Vector) → (level : Vector) → Work → Type 0
IsLiftRefusal bound limit w rows level (Range told) = (told ≡ 0) × SomeNumberLarge bound (IsLiftNumber w rows level)
IsLiftRefusal bound limit w rows level TooMany = IsPointCrowd limit w rows level
IsLiftRefusal bound limit w rows level (Stopped stage) = ⊥
IsLiftRefusal bound limit w rows level NoMemory = ⊤
