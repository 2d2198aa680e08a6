-- Vectors at which the last forms of both sides are 0.
use Rattle.std.specs.Prelude.{◌≡◌, pos, List, [], ◌∷◌, ◌++◌}
use Rattle.nz_spec.specs.Vectors.{Vector, dot, values_at}

-- both last forms are 0 at x, and these are the values of the rows at x, and 0; the items of a slice are the same
pub record IsLevel (rows : List Vector) (above below x values items : Vector) : Type 0 where
  pub up : dot above x ≡ pos 0
  pub down : dot below x ≡ pos 0
  pub known : values ≡ values_at rows x ++ pos 0 ∷ []
  pub shared : items ≡ values
