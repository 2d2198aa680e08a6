-- The numbers that are put after a vector, and why there is no list of the vectors that come of it.
use Rattle.std.specs.Prelude.{◌≡◌, ◌⊎◌, ⊤, ℕ, ◌+◌, ◌<◌, ◌≤◌, ℤ, pos, ◌≤ℤ◌, ◌<ℤ◌, unsigned_abs, List, [], ◌∷◌, ◌++◌, length, map, Contains}
use Rattle.std.specs.List.{AllByRecursion as Each}
use Rattle.nz_spec.specs.Vectors.{Vector}
use Rattle.nz_spec.specs.Order.{Pairwise, IsListOf}
use Rattle.nz_range.specs.Measures.{SomeLargeAt}
use Rattle.nz_vec.specs.declared.answers.Work.{Work}
use Rattle.nz_vec.specs.declared.answers.Work.TheVariants.{Range, TooMany, Stopped, NoMemory}
use Rattle.nz_lift.specs.Ends.{Allows}

-- t is one of the numbers from low to high
abbrev pub IsBetween : ℤ → ℤ → ℤ → Type 0
IsBetween low high t = (low ≤ℤ t) × (t ≤ℤ high)

-- with 1 in front of c and t after it, all forms that have a last entry are at least 0
abbrev pub MayFollow : (forms : List Vector) → (c : Vector) → ℤ → Type 0
MayFollow forms c t = Each (λ f. Allows f (pos 1 ∷ c ++ pos 0 ∷ []) t) forms

-- the vectors with one of the numbers after c each
abbrev pub followed : Vector → List ℤ → List Vector
followed c ts = map (λ t. c ++ t ∷ []) ts

-- the list is the one before, and then c with each number that has P, in order; it has no more vectors than the limit
pub record IsFollowed (limit : ℕ) (P : ℤ → Type 0) (c : Vector) (before list : List Vector) : Type 0 where
  pub numbers : List ℤ
  pub are : IsListOf ◌<ℤ◌ P numbers
  pub whole : list ≡ before ++ followed c numbers
  pub within : length list ≤ limit

-- the list before and some numbers that have P are more than the limit together
pub record IsTooLong (limit : ℕ) (P : ℤ → Type 0) (before : List Vector) : Type 0 where
  pub numbers : List ℤ
  pub in_order : Pairwise ◌<ℤ◌ numbers
  pub only : Each P numbers
  pub more : limit < length before + length numbers

-- why there is no list of c with the numbers from low to high
abbrev pub IsIntervalRefusal : ℤ → ℕ → (low high : ℤ) → List Vector → Work → Type 0
IsIntervalRefusal bound limit low high before (Range told) = (told ≡ 0) × ((bound <ℤ pos (unsigned_abs low)) ⊎ (bound <ℤ pos (unsigned_abs high)))
IsIntervalRefusal bound limit low high before TooMany = IsTooLong limit (IsBetween low high) before
IsIntervalRefusal bound limit low high before (Stopped stage) = ⊥
IsIntervalRefusal bound limit low high before NoMemory = ⊤

-- why there is none with the numbers that may follow
abbrev pub IsFollowRefusal : ℤ → ℕ → (forms : List Vector) → Vector → List Vector → Work → Type 0
IsFollowRefusal bound limit forms c before (Range told) = (told ≡ 0) × SomeLargeAt bound (Contains forms) (λ v. v ≡ pos 1 ∷ c ++ pos 0 ∷ [])
IsFollowRefusal bound limit forms c before TooMany = IsTooLong limit (MayFollow forms c) before
IsFollowRefusal bound limit forms c before (Stopped stage) = ⊥
IsFollowRefusal bound limit forms c before NoMemory = ⊤
