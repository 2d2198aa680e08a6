-- What `check` tells of a list.
use Rattle.std.specs.Prelude.{◌≡◌, ◌<◌, ⊤, length, List, ℤ, pos, ◌<ℤ◌, ◌≤ℤ◌, ℕ, ◌∷◌, [], get_or}
use Rattle.std.specs.List.{AllByRecursion as Each}
use Rattle.nz_spec.specs.Vectors.{Vector}
use Rattle.nz_spec.specs.Order.{degree, IsLexBefore}
use Rattle.nz_degree.specs.Degrees.{IsPlaceOfFirst}
use Rattle.nz_degree.specs.declared.positivity.Positivity.{Positivity}
use Rattle.nz_degree.specs.declared.positivity.Positivity.TheVariants.{Positive, NotPositive}

-- each degree is positive, or the first that is not stands at this place
abbrev pub Tells : Vector → List Vector → Positivity → Type 0
Tells grading list Positive = Each (λ x. pos 0 <ℤ degree grading x) list
Tells grading list (NotPositive place) = IsPlaceOfFirst grading list place

-- a row of this degree comes before what was found, whose degree is the least so far
abbrev pub ComesFirst : List Vector → Positivity → ℤ → ℤ → Vector → Type 0
ComesFirst list Positive least d row = d ≤ℤ pos 0
ComesFirst list (NotPositive place) least d row = IsLexBefore (d ∷ row) (least ∷ get_or list place [])

-- what was found stands in the list, and has w entries
abbrev pub IsFoundIn : ℕ → List Vector → Positivity → Type 0
IsFoundIn w list Positive = ⊤
IsFoundIn w list (NotPositive place) = (place < length list) × (length (get_or list place []) ≡ w)
