-- Quotients and common divisors.
use Rattle.std.specs.Prelude.{◌⊎◌, ℤ, pos, ◌+ℤ◌, ◌*ℤ◌, ◌≤ℤ◌, ◌<ℤ◌, List}
use Rattle.std.specs.List.{AllByRecursion as Each}
use Rattle.nz_spec.specs.Vectors.{IsMultipleOf}

-- q is the greatest integer not above a / b: a / b is at least q and below q + 1
pub record IsFloorQuotient (a b q : ℤ) : Type 0 where
  pub above : pos 0 <ℤ b → ((q *ℤ b) ≤ℤ a) × (a <ℤ ((q +ℤ pos 1) *ℤ b))
  pub below : b <ℤ pos 0 → (a ≤ℤ (q *ℤ b)) × (((q +ℤ pos 1) *ℤ b) <ℤ a)

-- the numbers have the greatest common divisor d: it is at least 0 and divides each, and what divides each divides it
pub record HasGcd (xs : List ℤ) (d : ℤ) : Type 0 where
  pub nonneg : pos 0 ≤ℤ d
  pub divides : Each (IsMultipleOf d) xs
  pub greatest : (k : ℤ) → Each (IsMultipleOf k) xs → IsMultipleOf k d

-- the remainder and the divisor have different signs: the quotient toward zero is above the exact one
abbrev pub RoundsUp : ℤ → ℤ → Type 0
RoundsUp rest by = ((pos 0 <ℤ by) × (rest <ℤ pos 0)) ⊎ ((by <ℤ pos 0) × (pos 0 <ℤ rest))
