-- How often one vector can be taken from another, by the values of the rows at both.
use Rattle.std.specs.Prelude.{◌≡◌, ◌≢◌, ◌<◌, ◌⊎◌, ⊤, ℕ, length, ℤ, pos, ◌+ℤ◌, ◌-ℤ◌, ◌*ℤ◌, ◌≤ℤ◌, ◌<ℤ◌, List, [], ◌∷◌, option_map, get_or, Option, Some, None}
use Rattle.std.specs.List.{AllByRecursion as Each}
use Rattle.nz_spec.specs.Vectors.{Vector, values_at, minus, scaled}
use Rattle.nz_scalar.specs.Division.{IsFloorQuotient}
use Rattle.nz_spec.specs.Constraints.{Constraint, Zero, Multiple, NotNegative}

-- the rows: the forms that are to be at least 0
abbrev pub rows_of : List Constraint → List Vector
rows_of [] = []
rows_of (Zero f ∷ cs) = rows_of cs
rows_of (Multiple f m ∷ cs) = rows_of cs
rows_of (NotNegative f ∷ cs) = f ∷ rows_of cs

-- these are the values of the forms at x, and the type has them
pub record AreValues (fits : ℤ → Type 0) (forms : List Vector) (x : Vector) (vs : List ℤ) : Type 0 where
  pub same : vs ≡ values_at forms x
  pub fit : Each fits vs

-- as many values of at least 0, which the type has
pub record AreAmounts (fits : ℤ → Type 0) (number : ℕ) (vs : List ℤ) : Type 0 where
  pub size : length vs ≡ number
  pub not_negative : Each (λ v. pos 0 ≤ℤ v) vs
  pub fit : Each fits vs

-- c times each height is at most the value beside it
abbrev pub Allow : ℤ → List ℤ → List ℤ → Type 0
Allow c [] vs = ⊤
Allow c (h ∷ hs) [] = ⊤
Allow c (h ∷ hs) (v ∷ vs) = ((c *ℤ h) ≤ℤ v) × Allow c hs vs

-- c is how often the heights can be taken from the values
pub record IsMost (hs vs : List ℤ) (c : ℤ) : Type 0 where
  pub not_negative : pos 0 ≤ℤ c
  pub allowed : Allow c hs vs
  pub no_more : ¬ Allow (c +ℤ pos 1) hs vs

-- how often the heights can be taken; none where no height is positive, so that they can always be taken
abbrev pub TellsMost : {T : Type 0} → (T → ℤ) → List ℤ → List ℤ → Option T → Type 0
TellsMost integer hs vs None = Each (λ h. h ≤ℤ pos 0) hs
TellsMost integer hs vs (Some c) = IsMost hs vs (integer c)

-- how often the heights are taken: as often as they can be, and not at all where no height is positive
abbrev pub IsCount : List ℤ → List ℤ → ℤ → Type 0
IsCount hs vs c = IsMost hs vs c ⊎ (Each (λ h. h ≤ℤ pos 0) hs × (c ≡ pos 0))

-- c times each height has a value in the type, and so has what it leaves
abbrev pub CanLessen : (ℤ → Type 0) → ℤ → List ℤ → List ℤ → Type 0
CanLessen fits c [] [] = ⊤
CanLessen fits c [] (v ∷ vs) = ⊥
CanLessen fits c (h ∷ hs) [] = ⊥
CanLessen fits c (h ∷ hs) (v ∷ vs) = fits (c *ℤ h) × fits (v -ℤ c *ℤ h) × CanLessen fits c hs vs

-- the heights are taken so often, and these values are left
pub record IsLessened (hs vs : List ℤ) (c : ℤ) (rest : List ℤ) : Type 0 where
  pub count : IsCount hs vs c
  pub left : rest ≡ minus vs (scaled c hs)

-- from a vector with these values of the rows, each element is taken in turn, so often as counted, and these values are left
abbrev pub LeaveValues : List Vector → List Vector → List ℤ → List ℤ → List ℤ → Type 0
LeaveValues rows [] vs [] rest = rest ≡ vs
LeaveValues rows [] vs (c ∷ counts) rest = ⊥
LeaveValues rows (e ∷ es) vs [] rest = ⊥
LeaveValues rows (e ∷ es) vs (c ∷ counts) rest = IsCount (values_at rows e) vs c × LeaveValues rows es (minus vs (scaled c (values_at rows e))) counts rest

-- where a list is given, the place of one of it at which the rows have these values
abbrev pub FindsValues : List Vector → Option (List Vector) → List ℤ → Option ℕ → Type 0
FindsValues rows None vs place = place ≡ None
FindsValues rows (Some modules) vs None = Each (λ m. values_at rows m ≢ vs) modules
FindsValues rows (Some modules) vs (Some place) = (place < length modules) × (values_at rows (get_or modules place []) ≡ vs)

-- r is q, or the times where these are fewer
abbrev pub IsLeast : Option ℤ → ℤ → ℤ → Type 0
IsLeast None q r = r ≡ q
IsLeast (Some t) q r = ((r ≡ t) × (t ≤ℤ q)) ⊎ ((r ≡ q) × (q ≤ℤ t))

-- a height that is not positive changes nothing; else the floor of the quotient is a bound
pub data Lessens {T : Type 0} (integer : T → ℤ) (times : Option T) (h v : ℤ) : Option T → Type 0 where
  stays : ¬ (pos 0 <ℤ h) → Lessens integer times h v times
  bounded : (q : ℤ) (r : T) → pos 0 <ℤ h → IsFloorQuotient v h q → IsLeast (option_map integer times) q (integer r) → Lessens integer times h v (Some r)
