-- What is said of the elements of a system: of their number, and of their degrees.
use Rattle.std.specs.Prelude.{ℕ, ◌≤◌, List, [], length, get_or, pos, ◌≤ℤ◌, IfSome}
use Rattle.nz_spec.specs.Vectors.{Vector}
use Rattle.nz_spec.specs.Order.{degree, ListsOnce}
use Rattle.nz_spec.specs.Systems.{System, IsMember}
use Rattle.nz_spec.specs.Monoids.{IsIrreducible}
use Rattle.nz_spec.specs.Elements.{IsHilbertElement, IsFirstNotPositive}
use Rattle.nz_degree.specs.declared.positivity.Positivity.{Positivity}
use Rattle.nz_degree.specs.declared.positivity.Positivity.TheVariants.{Positive, NotPositive}

-- no grading, or each element of the Hilbert basis has a degree of at least 1
abbrev pub IsGraded : System → Type 0
IsGraded s = IfSome s.grading (λ grading. (x : Vector) → IsHilbertElement s x → pos 1 ≤ℤ degree grading x)

-- what the check of the elements of level 0, in any order, tells of the system
abbrev pub Grades : System → List Vector → Positivity → Type 0
Grades s xs Positive = IsGraded s
Grades s xs (NotPositive place) = IsFirstNotPositive s (get_or xs place []) × (¬ IsGraded s)

-- the irreducible elements, of all levels, are no more than the limit
pub record IsWithin (s : System) (limit : ℕ) : Type 0 where
  pub list : List Vector
  pub lists : ListsOnce (IsIrreducible (IsMember s)) list
  pub size : length list ≤ limit
