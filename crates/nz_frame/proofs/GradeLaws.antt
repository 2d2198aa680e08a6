-- Degrees: the grade that is refused, exactly, and the order by degree in coordinates.
use Rattle.std.proofs.Common.{◌≡◌, ℕ, List, [], get_or, Option, Some, None, IfSome, ℤ, pos, ◌≤ℤ◌, sym, subst, arith}
use Rattle.std.specs.Prelude.{◌<ℤ◌}
use Rattle.std.proofs.lemmas.Int.{ints}
use Rattle.std.specs.List.{AllByRecursion as Each}
use Rattle.nz_spec.specs.Vectors.{Vector}
use Rattle.nz_spec.specs.Order.{degree, ListsOnce}
use Rattle.nz_spec.specs.Systems.{System}
use Rattle.nz_spec.specs.Elements.{IsHilbertElement, IsFirstNotPositive}
use Rattle.nz_spec.proofs.ListLaws.{Each-contains}
use Rattle.nz_spec.proofs.UniqueLaws.{IsFirstNotPositive-unique}
use Rattle.nz_degree.specs.Degrees.{IsPlaceOfFirst}
use Rattle.nz_degree.proofs.ElementLaws.{first_is_element}
use Rattle.nz_degree.specs.Positivities.{Tells}
use Rattle.nz_degree.specs.declared.positivity.Positivity.{Positivity}
use Rattle.nz_degree.specs.declared.positivity.Positivity.TheVariants.{Positive, NotPositive}
use Rattle.nz_frame.specs.Elements.{Grades}
use Rattle.nz_frame.specs.Elements.{IsGraded}

same_grading : (g h : Vector) → Some g ≡ Some h → g ≡ h
same_grading g h e = cc

at_least_one : (d : ℤ) → pos 0 <ℤ d → pos 1 ≤ℤ d
at_least_one d h = omega (arith, ints, h)

not_both : (d : ℤ) → pos 1 ≤ℤ d → d ≤ℤ pos 0 → ⊥
not_both d p q = omega (arith, ints, p, q)

-- ---- the check of the list of level 0, in any order
pub checked_is_graded : (s : System) (grading : Vector) → s.grading ≡ Some grading → (xs : List Vector) → ListsOnce (IsHilbertElement s) xs → Each (λ x. pos 0 <ℤ degree grading x) xs → IsGraded s
checked_is_graded s grading given xs basis positive = subst (λ (o : Option Vector). IfSome o (λ grading. (x : Vector) → IsHilbertElement s x → pos 1 ≤ℤ degree grading x)) (sym given)
    (λ x h. at_least_one (degree grading x) (Each-contains (λ y. pos 0 <ℤ degree grading y) xs x positive (basis.each x h)))

pub ungraded_is_graded : (s : System) → s.grading ≡ None → IsGraded s
ungraded_is_graded s none = subst (λ (o : Option Vector). IfSome o (λ grading. (x : Vector) → IsHilbertElement s x → pos 1 ≤ℤ degree grading x)) (sym none) tt

-- what is graded has no element to be refused
pub graded_has_none : (s : System) → IsGraded s → (x : Vector) → ¬ IsFirstNotPositive s x
graded_has_none s g x f =
    let h : (y : Vector) → IsHilbertElement s y → pos 1 ≤ℤ degree f.grading y = subst (λ (o : Option Vector). IfSome o (λ grading. (y : Vector) → IsHilbertElement s y → pos 1 ≤ℤ degree grading y)) f.given g in
    not_both (degree f.grading x) (h x f.first.has) f.not_positive

-- what the check names of any list is the one element that is refused
pub named_is_first : (s : System) (grading : Vector) → s.grading ≡ Some grading → (xs : List Vector) → ListsOnce (IsHilbertElement s) xs → (place : ℕ) → IsPlaceOfFirst grading xs place → (x : Vector) → IsFirstNotPositive s x → x ≡ get_or xs place []
named_is_first s grading given xs basis place p x f = IsFirstNotPositive-unique s x (get_or xs place []) f (first_is_element s grading given xs basis place p)

-- ---- what the check tells
pub check_is_exact : (s : System) (grading : Vector) → s.grading ≡ Some grading → (xs : List Vector) → ListsOnce (IsHilbertElement s) xs → (answer : Positivity) → Tells grading xs answer → Grades s xs answer
check_is_exact s grading given xs basis Positive h = checked_is_graded s grading given xs basis h
check_is_exact s grading given xs basis (NotPositive place) h = let f = first_is_element s grading given xs basis place h in (f, (λ g. graded_has_none s g (get_or xs place []) f))
