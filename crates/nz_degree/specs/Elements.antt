-- What `check`, `degree_one` and `sort` leave, in the words of a system: of lists of its elements.
use Rattle.std.specs.Prelude.{◌≡◌, ◌≢◌, ℕ, List, [], get_or, ℤ, pos, ◌<ℤ◌, Option, Some, Contains}
use Rattle.std.specs.List.{AllByRecursion as Each}
use Rattle.std.specs.List.Sorted.{IsPermutation}
use Rattle.nz_spec.specs.Vectors.{Vector, HasWidth}
use Rattle.nz_spec.specs.Order.{degree, StandsBefore, Pairwise, IsListOf, ListsOnce}
use Rattle.nz_spec.specs.Systems.{System, IsMember}
use Rattle.nz_spec.specs.Monoids.{IsModuleGenerator}
use Rattle.nz_spec.specs.Elements.{IsHilbertElement, IsHilbertBasis, AreModuleGenerators, IsFirstNotPositive}
use Rattle.nz_order.specs.Picks.{Picks}
use Rattle.nz_further.specs.Denominators.{IsDenominator, AreDegreeOneElements}
use Rattle.nz_degree.specs.Degrees.{IsPlaceOfFirst, IsInOrder}

-- of the Hilbert basis in any order, the first of degree 0 or less is the first element, and not positive
abbrev pub FirstIsElement : Type 0
FirstIsElement = (s : System) (grading : Vector) → s.grading ≡ Some grading → (xs : List Vector) → ListsOnce (IsHilbertElement s) xs → (place : ℕ) → IsPlaceOfFirst grading xs place → IsFirstNotPositive s (get_or xs place [])

-- and where each degree is positive there is no such element
abbrev pub PositiveHasNone : Type 0
PositiveHasNone = (s : System) (grading : Vector) → s.grading ≡ Some grading → (xs : List Vector) → ListsOnce (IsHilbertElement s) xs → Each (λ x. pos 0 <ℤ degree grading x) xs → (x : Vector) → ¬ IsFirstNotPositive s x

-- what is picked of the Hilbert basis by the denominator of its degrees is the list of its elements of degree 1
abbrev pub OnesAreElements : Type 0
OnesAreElements = (s : System) (grading : Vector) → s.grading ≡ Some grading → (xs ones : List Vector) → IsHilbertBasis s xs → (g : ℤ) → IsDenominator grading xs g → Picks (λ x. degree grading x ≡ g) xs ones → AreDegreeOneElements s g ones

-- rows of one width, each once, in order are the list of what stood in the list before
abbrev pub SortedIsList : Type 0
SortedIsList = (w : ℕ) (grading : Option Vector) (xs ys : List Vector) → Each (HasWidth w) xs → Pairwise ◌≢◌ xs → IsPermutation xs ys → IsInOrder grading ys → IsListOf (StandsBefore grading) (Contains xs) ys

-- so the Hilbert basis in any order becomes its list
abbrev pub SortedIsBasis : Type 0
SortedIsBasis = (s : System) (xs ys : List Vector) → ListsOnce (IsHilbertElement s) xs → IsPermutation xs ys → IsInOrder s.grading ys → IsHilbertBasis s ys

-- and so do the module generators
abbrev pub SortedAreModules : Type 0
SortedAreModules = (s : System) (xs ys : List Vector) → ListsOnce (IsModuleGenerator (IsMember s)) xs → IsPermutation xs ys → IsInOrder s.grading ys → AreModuleGenerators s ys
