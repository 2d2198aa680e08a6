-- Why the lattice points of a system are not given.
use Rattle.std.specs.Prelude.{◌≡◌, ◌⊎◌, ⊤, ℕ, ◌-◌, List, length, ℤ, pos, ◌<ℤ◌}
use Rattle.nz_spec.specs.Vectors.{Vector, opposite}
use Rattle.nz_spec.specs.Forms.{IsNormalForm}
use Rattle.nz_spec.specs.Systems.{System}
use Rattle.nz_linear.specs.Echelon.{unit_at}
use Rattle.nz_linear.specs.Coordinates.{in_coordinates}
use Rattle.nz_further.specs.Shadows.{AreBounded, IsLatticePoint, IsUnboundedAlong}
use Rattle.nz_further.specs.Crowds.{IsPointCrowd}
use Rattle.nz_vec.specs.declared.answers.Work.{Work}
use Rattle.nz_vec.specs.declared.answers.Work.TheVariants.{Range, TooMany, Stopped, NoMemory}
use Rattle.nz_range.specs.Measures.{pair_measure}
use Rattle.nz_sweep.specs.Bases.{Base, column_of}
use Rattle.nz_sweep.specs.Numbers.{SomeNumberLarge}
use Rattle.nz_measures.specs.Sweeps.{IsSwept}
use Rattle.nz_measures.specs.Reaches.{HasOwnAbove}
use Rattle.nz_frame.specs.Frames.{IsFrame}
use Rattle.nz_lift.specs.LiftNumbers.{IsLiftNumber}

-- the level, as a form in the coordinates of a base
abbrev pub level_in : System → Base → Vector
level_in s base = in_coordinates base.vectors (unit_at s.width (s.width - 1))

-- In these coordinates c is a vector that is taken back to the file: of bounded rows a lattice point, and of others a vector along which they are not bounded, which is a normal form of the rows or the opposite of one.
pub data IsTakenBack (w : ℕ) (rows : List Vector) (level c : Vector) : Type 0 where
  point : AreBounded w rows level → IsLatticePoint w rows level c → IsTakenBack w rows level c
  along : IsUnboundedAlong w rows level c → IsNormalForm w rows c ⊎ IsNormalForm w rows (opposite c) → IsTakenBack w rows level c

-- a number of the system's lattice points is above n: of its own, of what is formed in the coordinates of its base, or, on the way back, for one column the sum of the sizes of the products by which the entry is made of those of the base
pub data IsPointReachAbove (s : System) (n : ℤ) : Type 0 where
  of_file : HasOwnAbove s n → IsPointReachAbove s n
  of_base : {base : Base} {rows : List Vector} → IsFrame s base rows → IsSwept s base → SomeNumberLarge n (IsLiftNumber (length base.vectors) rows (level_in s base)) → IsPointReachAbove s n
  of_return : {base : Base} {rows : List Vector} {c : Vector} → IsFrame s base rows → IsSwept s base → IsTakenBack (length base.vectors) rows (level_in s base) c → (j : ℕ) → n <ℤ pos (pair_measure c (column_of base.vectors j)) → IsPointReachAbove s n

-- in the coordinates of its base a shadow has more vectors than the limit
pub record IsPointCrowdAbove (s : System) (limit : ℕ) : Type 0 where
  pub base : Base
  pub rows : List Vector
  pub frame : IsFrame s base rows
  pub swept : IsSwept s base
  pub crowd : IsPointCrowd limit (length base.vectors) rows (level_in s base)

-- why there are no points; no stage is told, and none is stopped
abbrev pub IsSystemRefusal : ℤ → ℕ → System → Work → Type 0
IsSystemRefusal bound limit s (Range told) = (told ≡ 0) × IsPointReachAbove s bound
IsSystemRefusal bound limit s TooMany = IsPointCrowdAbove s limit
IsSystemRefusal bound limit s (Stopped stage) = ⊥
IsSystemRefusal bound limit s NoMemory = ⊤
