-- Candidates that no other one reduces.
use Rattle.std.specs.Prelude.{◌≡◌, ℕ, ◌+◌, ◌<◌, pos, ◌≤ℤ◌, List, length, map, slice_index_or, Contains}
use Rattle.std.specs.List.{AllByRecursion as Each}
use Rattle.nz_spec.specs.Vectors.{Vector, dot, values_at, HasWidth, IsZero, IsNonzero}
use Rattle.nz_spec.specs.Order.{IsLexBefore}
use Rattle.nz_order.specs.Reduction.{Reduces}

-- the candidates have one width, and the rows are forms on it that are together 0 only at 0
pub record AreSeparated (rows candidates : List Vector) : Type 0 where
  pub width : ℕ
  pub rows_wide : Each (HasWidth width) rows
  pub candidates_wide : Each (HasWidth width) candidates
  pub only_zero : (x : Vector) → HasWidth width x → Each (λ r. dot r x ≡ pos 0) rows → IsZero x

-- no row is negative at x
abbrev pub IsNotNegative : List Vector → Vector → Type 0
IsNotNegative rows x = Each (λ r. pos 0 ≤ℤ dot r x) rows

-- a nonzero candidate that no other one reduces: no row is negative at the difference
pub record IsUnreduced (rows candidates : List Vector) (u : Vector) : Type 0 where
  pub candidate : Contains candidates u
  pub nonzero : IsNonzero u
  pub unreduced : Each (λ v. ¬ Reduces (IsNotNegative rows) v u) candidates

-- the items are the candidates, each with the values of the rows at it
pub record AreValued {Item : Type 0} (rows candidates : List Vector) (items : List Item) (entries values : Item → Vector) : Type 0 where
  pub same : map entries items ≡ candidates
  pub values_of : Each (λ c. values c ≡ values_at rows (entries c)) items

-- no vector is before the one that it follows
abbrev pub IsNotFalling : List Vector → Type 0
IsNotFalling xs = (k : ℕ) (d : Vector) → k + 1 < length xs → ¬ IsLexBefore (slice_index_or xs (k + 1) d) (slice_index_or xs k d)
