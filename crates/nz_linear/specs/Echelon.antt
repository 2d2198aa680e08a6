-- Columns: unit vectors, the column at which a form ends, and the columns of the vectors that elimination leaves.
use Rattle.std.specs.Prelude.{◌≡◌, ◌≢◌, ℕ, zero, suc, ◌<◌, List, [], ◌∷◌, pos}
use Rattle.std.specs.List.{AllZip}
use Rattle.nz_spec.specs.Vectors.{Vector, dot, zero_vector, entry, HasWidth}
use Rattle.nz_spec.specs.Order.{Pairwise}
use Rattle.nz_linear.specs.DualPairs.{Pair}

-- the vector with w entries that is 1 at column j and else 0
abbrev pub unit_at : ℕ → ℕ → Vector
unit_at zero j = []
unit_at (suc w) zero = pos 1 ∷ zero_vector w
unit_at (suc w) (suc j) = pos 0 ∷ unit_at w j

-- the last nonzero entry of f is at column j
pub record EndsAt (j : ℕ) (f : Vector) : Type 0 where
  pub nonzero : entry f j ≢ pos 0
  pub after : (k : ℕ) → j < k → entry f k ≡ pos 0

-- the form is the unit form of column c, and the vector is 0 at all later columns
pub record IsColumnPair (w c : ℕ) (p : Pair) : Type 0 where
  pub within : c < w
  pub unit : (x : Vector) → HasWidth w x → dot p.form x ≡ entry x c
  pub after : (k : ℕ) → c < k → entry p.vector k ≡ pos 0

-- the pairs belong to these columns, which increase
pub record AreColumnPairs (w : ℕ) (columns : List ℕ) (free : List Pair) : Type 0 where
  pub in_order : Pairwise ◌<◌ columns
  pub each : AllZip (IsColumnPair w) columns free
