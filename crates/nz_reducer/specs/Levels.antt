-- Levels that values reach in a column, and words of bits that tell which.
use Rattle.std.specs.Prelude.{◌≡◌, ℕ, ◌<◌, ◌≤◌, ℤ, pos, ◌≤ℤ◌, List, length, slice_index_or}
use Rattle.std.specs.Int.{bit_at}
use Rattle.std.specs.List.{AllByRecursion as Each}
use Rattle.nz_spec.specs.Vectors.{Vector}

-- at most 64 levels, each in one of so many columns
pub record AreLevels {Level : Type 0} (column : Level → ℕ) (width : ℕ) (levels : List Level) : Type 0 where
  pub few : length levels ≤ 64
  pub columns : Each (λ l. column l < width) levels

-- at the column of the level the values are at least its own
abbrev pub Reaches : {Level : Type 0} → (Level → ℕ) → (Level → ℤ) → Vector → Level → Type 0
Reaches column value xs l = value l ≤ℤ slice_index_or xs (column l) (pos 0)

-- bit i of the word is set exactly where the values reach level i
pub record IsWordOf {Level : Type 0} (column : Level → ℕ) (value : Level → ℤ) (levels : List Level) (xs : Vector) (word : ℕ) : Type 0 where
  pub each : (i : ℕ) (d : Level) → i < length levels → Reaches column value xs (slice_index_or levels i d) → bit_at word i ≡ 1
  pub only : (i : ℕ) → bit_at word i ≡ 1 → (i < length levels) × ((d : Level) → Reaches column value xs (slice_index_or levels i d))
