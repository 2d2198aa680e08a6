-- Why the units and the irreducible classes of a system are not given.
use Rattle.std.specs.Prelude.{◌≡◌, ◌⊎◌, ⊤, ℕ, List, length, ℤ, pos, ◌<ℤ◌, Contains}
use Rattle.nz_spec.specs.Vectors.{Vector, unit_vectors}
use Rattle.nz_spec.specs.Systems.{System}
use Rattle.nz_vec.specs.declared.answers.Work.{Work}
use Rattle.nz_vec.specs.declared.answers.Work.TheVariants.{Range, TooMany, Stopped, NoMemory}
use Rattle.nz_range.specs.Measures.{pair_measure}
use Rattle.nz_sweep.specs.Bases.{Base, column_of}
use Rattle.nz_sweep.specs.Numbers.{SomeNumberLarge}
use Rattle.nz_measures.specs.Sweeps.{IsSwept}
use Rattle.nz_measures.specs.Reaches.{HasOwnAbove}
use Rattle.nz_frame.specs.Frames.{IsFrame}
use Rattle.nz_units.specs.UnitLists.{AreUnitLists}
use Rattle.nz_units.specs.UnitNumbers.{IsUnitNumber}
use Rattle.nz_units.specs.UnitCrowds.{IsUnitCrowd}

-- a number of the system's units and classes is above n: of its own, of the split of its base and what is formed in the coordinates of the rest, or, on the way back to the file, for a unit or a class and one column the sum of the sizes of the products by which the entry is made of those of the base
pub data IsUnitReachAbove (s : System) (n : ℤ) : Type 0 where
  of_file : HasOwnAbove s n → IsUnitReachAbove s n
  of_base : {base : Base} {rows : List Vector} → IsFrame s base rows → IsSwept s base → SomeNumberLarge n (IsUnitNumber (unit_vectors (length base.vectors)) rows) → IsUnitReachAbove s n
  of_return : {base : Base} {rows units classes : List Vector} {c : Vector} → IsFrame s base rows → IsSwept s base → AreUnitLists (length base.vectors) (unit_vectors (length base.vectors)) rows units classes
      → Contains units c ⊎ Contains classes c → (j : ℕ) → n <ℤ pos (pair_measure c (column_of base.vectors j)) → IsUnitReachAbove s n

-- in the coordinates of the system's base there are too many vectors for the limit
pub record IsUnitCrowdAbove (s : System) (limit : ℕ) : Type 0 where
  pub base : Base
  pub rows : List Vector
  pub frame : IsFrame s base rows
  pub swept : IsSwept s base
  pub crowd : IsUnitCrowd limit (length base.vectors) (unit_vectors (length base.vectors)) rows

-- why there are no lists; no stage is told, and none is stopped
abbrev pub IsSystemRefusal : ℤ → ℕ → System → Work → Type 0
IsSystemRefusal bound limit s (Range told) = (told ≡ 0) × IsUnitReachAbove s bound
IsSystemRefusal bound limit s TooMany = IsUnitCrowdAbove s limit
IsSystemRefusal bound limit s (Stopped stage) = ⊥
IsSystemRefusal bound limit s NoMemory = ⊤
