-- What may be too many for the classes of a lattice at rows.
use Rattle.std.specs.Prelude.{ℕ, List, [], ◌∷◌, ◌++◌, length}
use Rattle.nz_spec.specs.Vectors.{Vector}
use Rattle.nz_spec.specs.Sums.{IsInGroup}
use Rattle.nz_spec.specs.Stages.{IsInStage, IsInReversed, IsFreshRow, Separates}
use Rattle.nz_measures.specs.Stages.{IsLater}
use Rattle.nz_further.specs.Units.{IsUnit}
use Rattle.nz_further.specs.Crowds.{HasMoreClasses, IsStartCrowd}
use Rattle.nz_units.specs.UnitLists.{IsInMonoid}

-- Of the rows with the independent ones first, these and the classes in their box are more than the limit; or a stage after that of the independent ones, or a reversed one, has more irreducible classes than the limit.
pub data IsUnitCrowd (limit w : ℕ) (lattice rows : List Vector) : Type 0 where
  of_start : {first others : List Vector} → Separates (IsFreshRow (IsInGroup w lattice)) [] rows first others → IsStartCrowd limit (IsInGroup w lattice) (IsUnit (IsInMonoid w lattice rows)) first → IsUnitCrowd limit w lattice rows
  of_stage : {first others earlier : List Vector} {last : Vector} → Separates (IsFreshRow (IsInGroup w lattice)) [] rows first others → IsLater (length first) (first ++ others) earlier last
      → HasMoreClasses limit (IsInStage (IsInGroup w lattice) (earlier ++ last ∷ [])) → IsUnitCrowd limit w lattice rows
  of_reversed : {first others earlier : List Vector} {last : Vector} → Separates (IsFreshRow (IsInGroup w lattice)) [] rows first others → IsLater (length first) (first ++ others) earlier last
      → HasMoreClasses limit (IsInReversed (IsInGroup w lattice) earlier last) → IsUnitCrowd limit w lattice rows
