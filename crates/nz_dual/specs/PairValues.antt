-- The values of forms at a sum of two vectors, from the values at the two.
use Rattle.std.specs.Prelude.{◌≡◌, ◌⊎◌, ℕ, ◌+◌, ◌<◌, ℤ, pos, ◌-ℤ◌, ◌<ℤ◌, List, [], ◌∷◌, ◌++◌, length, take, get_or}
use Rattle.nz_spec.specs.Vectors.{Vector, plus, entry}
use Rattle.nz_reducer.specs.Tables.{HasAnyBelow}
use Rattle.nz_dual.specs.Sides.{SideLists}

-- the sums of the first values, and behind them a last value
abbrev pub sums_before : ℕ → Vector → Vector → ℤ → Vector
sums_before count own other last = take count (plus own other) ++ last ∷ []

-- the value of the last form at the sum, where the other list has that of its opposite
abbrev pub height : ℕ → Vector → Vector → ℤ
height count own other = entry own count -ℤ entry other count

-- the last form is negative at the sum, or an entry is at most the values at the sum in every column
abbrev pub FallsAway : ℕ → List Vector → Vector → Vector → Type 0
FallsAway count entries own other = (height count own other <ℤ pos 0) ⊎ HasAnyBelow entries (sums_before count own other (height count own other))

-- a rising element at this place, with so many values and one more
abbrev pub HasValues : ℕ → SideLists → ℕ → Type 0
HasValues count s k = (k < length s.rising_values) × (length (get_or s.rising_values k []) ≡ count + 1)
