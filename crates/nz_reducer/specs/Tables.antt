-- Tables of value lists: the first entry that is at most given values, and which entries a search compares.
use Rattle.std.specs.Prelude.{◌≡◌, ◌≢◌, ◌⊎◌, ℕ, ◌<◌, ℤ, pos, ◌+ℤ◌, ◌≤ℤ◌, List, [], ◌∷◌, length, slice_index_or, Option, Contains, MatchOption}
use Rattle.std.specs.List.{AllByRecursion as Each}
use Rattle.nz_spec.specs.Vectors.{Vector}
use Rattle.nz_spec.specs.Order.{Pairwise}
use Rattle.nz_order.specs.Boxes.{IsBelow}

-- no entry is at most these values in every column
abbrev pub NoneIsBelow : List Vector → Vector → Type 0
NoneIsBelow entries values = Each (λ e. ¬ IsBelow e values) entries

-- the entry at this place is at most these values in every column, and none before it is
pub record IsFirstBelow (entries : List Vector) (values : Vector) (place : ℕ) : Type 0 where
  pub inside : place < length entries
  pub below : IsBelow (slice_index_or entries place []) values
  pub first : (k : ℕ) → k < place → ¬ IsBelow (slice_index_or entries k []) values

-- an entry is at most these values in every column
pub record HasAnyBelow (entries : List Vector) (values : Vector) : Type 0 where
  pub place : ℕ
  pub inside : place < length entries
  pub below : IsBelow (slice_index_or entries place []) values

-- what callers see of a table: the number of values in an entry, and what was put
pub record TableLists : Type 0 where
  pub columns : ℕ
  pub rows : List Vector

-- the sum of the values
abbrev pub total : Vector → ℤ
total [] = pos 0
total (a ∷ xs) = a +ℤ total xs

-- the values and their sum are values of the type
abbrev pub HasSum : (ℤ → Type 0) → Vector → Type 0
HasSum fits xs = Each fits xs × fits (total xs)

-- the sum of this entry is at most that of the values, or it has none in the type
pub record IsInReach (fits : ℤ → Type 0) (entries : List Vector) (values : Vector) (place : ℕ) : Type 0 where
  pub inside : place < length entries
  pub small : (total (slice_index_or entries place []) ≤ℤ total values) ⊎ ¬ HasSum fits (slice_index_or entries place [])

-- so many different entries in reach were compared: the one that was found, or where none was found all that are in reach
pub record IsNumberCompared (fits : ℤ → Type 0) (entries : List Vector) (values : Vector) (found : Option ℕ) (number : ℕ) : Type 0 where
  pub places : List ℕ
  pub different : Pairwise ◌≢◌ places
  pub in_reach : Each (IsInReach fits entries values) places
  pub size : length places ≡ number
  pub answer : MatchOption found ((k : ℕ) → IsInReach fits entries values k → Contains places k) (Contains places)

-- an entry whose sum is a value of the type and at most this number is at most the values in every column
pub record HasBelow (fits : ℤ → Type 0) (entries : List Vector) (values : Vector) (most : ℤ) : Type 0 where
  pub place : ℕ
  pub inside : place < length entries
  pub sum : HasSum fits (slice_index_or entries place [])
  pub small : total (slice_index_or entries place []) ≤ℤ most
  pub below : IsBelow (slice_index_or entries place []) values
