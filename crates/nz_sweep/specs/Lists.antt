-- Why a list of forms or of vectors has no place in the coordinates of a base, or no way back.
use Rattle.std.specs.Prelude.{ℤ, List, Contains}
use Rattle.nz_spec.specs.Vectors.{Vector}
use Rattle.nz_sweep.specs.Bases.{Base, ValueSumsFit, CombinationSumsFit}

-- one of the forms cannot be pulled to the base
pub record LacksPull (fits : ℤ → Type 0) (b : Base) (fs : List Vector) : Type 0 where
  pub form : Vector
  pub has : Contains fs form
  pub outside : ¬ ValueSumsFit fits form b.vectors

-- one of the vectors cannot be brought back from the coordinates of the base
pub record LacksVector (fits : ℤ → Type 0) (b : Base) (cs : List Vector) : Type 0 where
  pub coordinates : Vector
  pub has : Contains cs coordinates
  pub outside : ¬ CombinationSumsFit fits b.width coordinates b.vectors
