-- The units and the irreducible classes of a system.
use Rattle.std.specs.Prelude.{◌≡◌, ◌≤◌, ℕ, Bool, true, false, List, [], length, map, pos}
use Rattle.nz_spec.specs.Vectors.{Vector, unit_vectors}
use Rattle.nz_spec.specs.Systems.{System, IsMember}
use Rattle.nz_order.specs.Picks.{Picks}
use Rattle.nz_further.specs.Units.{GenerateUnits, RepresentClasses, AreClassesOf}
use Rattle.nz_degree.specs.Levels.{IsAtLevel}
use Rattle.nz_sweep.specs.Bases.{Base}
use Rattle.nz_measures.specs.Sweeps.{IsSwept}
use Rattle.nz_frame.specs.Frames.{IsFrame, vector_at}
use Rattle.nz_units.specs.Splits.{IsSplitBy}

-- The base of the lattice, as its sweep leaves it, is split by the rows in its coordinates. The units are those of this split, taken back; they generate the units of the members. The representatives are, in lexicographic order, just the vectors of the group of the rest that are of irreducible classes; so there is one for each irreducible class.
pub record AreUnitsOf (s : System) (units representatives : List Vector) : Type 0 where
  pub base : Base
  pub pulled : List Vector
  pub frame : IsFrame s base pulled
  pub swept : IsSwept s base
  pub units_there : List Vector
  pub rest_there : List Vector
  pub steps : IsSplitBy (unit_vectors (length base.vectors)) pulled units_there rest_there
  pub units_back : units ≡ map (λ c. vector_at base c) units_there
  pub list : AreClassesOf s.width base.vectors frame.rows (map (λ c. vector_at base c) rest_there) representatives
  pub generate : GenerateUnits s.width (IsMember s) units
  pub represent : RepresentClasses (IsMember s) representatives

-- where there is a level, the vectors of level 1 and those of level 0 in their order; and else none and all
abbrev pub AreByLevel : Bool → (representatives modules classes : List Vector) → Type 0
AreByLevel true representatives modules classes = Picks (IsAtLevel (pos 1)) representatives modules × Picks (IsAtLevel (pos 0)) representatives classes
AreByLevel false representatives modules classes = (modules ≡ []) × (classes ≡ representatives)

-- the units, and the representatives, no more than the limit, by level
pub record AreSystemUnits (limit : ℕ) (s : System) (units modules classes : List Vector) : Type 0 where
  pub representatives : List Vector
  pub within : length representatives ≤ limit
  pub are : AreUnitsOf s units representatives
  pub levels : AreByLevel s.level representatives modules classes
