-- The units of a lattice at rows, and one vector for each irreducible class.
use Rattle.std.specs.Prelude.{ℕ, List, [], ◌∷◌, length, map}
use Rattle.nz_spec.specs.Vectors.{Vector}
use Rattle.nz_spec.specs.Sums.{IsInGroup}
use Rattle.nz_spec.specs.Stages.{IsInStage}
use Rattle.nz_linear.specs.Coordinates.{in_coordinates}
use Rattle.nz_further.specs.Units.{GenerateUnits, RepresentClasses, IsUnitSplit, AreClassesOf}
use Rattle.nz_units.specs.Splits.{IsSplitBy}

-- the rows in the coordinates of the rest
abbrev pub rows_in : List Vector → List Vector → List Vector
rows_in rest rows = map (λ r. in_coordinates rest r) rows

-- the vectors of the lattice at which all rows are at least 0
abbrev pub IsInMonoid : ℕ → List Vector → List Vector → Vector → Type 0
IsInMonoid w lattice rows = IsInStage (IsInGroup w lattice) rows

-- The lattice is split by the rows into these units and some rest. The units generate the units of the monoid. The classes are, in lexicographic order, just the vectors of the group of the rest that are of irreducible classes; so there is one for each irreducible class.
pub record AreUnitLists (w : ℕ) (lattice rows units classes : List Vector) : Type 0 where
  pub rest : List Vector
  pub steps : IsSplitBy lattice rows units rest
  pub split : IsUnitSplit w lattice rows units rest
  pub generate : GenerateUnits w (IsInMonoid w lattice rows) units
  pub list : AreClassesOf w lattice rows rest classes
  pub represent : RepresentClasses (IsInMonoid w lattice rows) classes

-- the width of the vectors, and 0 where there are none
abbrev pub width_of : List Vector → ℕ
width_of [] = 0
width_of (v ∷ vs) = length v
