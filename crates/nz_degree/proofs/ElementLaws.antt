-- Lists of elements by their degrees.
use Rattle.std.proofs.Common.{◌≡◌, ◌≢◌, inl, inr, ℕ, List, [], ◌∷◌, get_or, ℤ, pos, ◌≤ℤ◌, Option, Some, sym, ◌∙◌, subst, arith}
use Rattle.std.specs.Prelude.{◌<ℤ◌, Contains}
use Rattle.std.proofs.lemmas.Int.{ints, by_lt_z}
use Rattle.std.specs.List.{AllByRecursion as Each}
use Rattle.std.specs.List.Sorted.{IsPermutation}
use Rattle.nz_spec.specs.Vectors.{Vector, HasWidth}
use Rattle.nz_spec.specs.Order.{degree, StandsBefore, Pairwise, IsListOf, ListsOnce}
use Rattle.nz_spec.specs.Systems.{System, IsMember}
use Rattle.nz_spec.specs.Monoids.{IsModuleGenerator}
use Rattle.nz_spec.specs.Elements.{IsHilbertElement, IsHilbertBasis, IsOfDegree, AreModuleGenerators, IsFirstNotPositive}
use Rattle.nz_spec.proofs.ListLaws.{Each-contains, Each-from_contains, Each-weaker}
use Rattle.nz_order.specs.Picks.{Picks}
use Rattle.nz_order.proofs.OrderLaws.{stands_cases}
use Rattle.nz_order.proofs.SortLaws.{Picks-list, IsListOf-where, permuted_once}
use Rattle.nz_further.specs.Denominators.{IsDenominator, AreDegreeOneElements}
use Rattle.nz_degree.specs.Degrees.{IsPlaceOfFirst, IsInOrder}

below : (a b : ℤ) → a ≤ℤ pos 0 → pos 0 <ℤ b → a <ℤ b
below a b p q = omega (arith, ints, p, q)

pub first_is_element : (s : System) (grading : Vector) → s.grading ≡ Some grading → (xs : List Vector) → ListsOnce (IsHilbertElement s) xs → (place : ℕ) → IsPlaceOfFirst grading xs place → IsFirstNotPositive s (get_or xs place [])
first_is_element s grading given xs basis place p = record {
  grading = grading;
  given = given;
  first = record {
    has = Each-contains (IsHilbertElement s) xs (get_or xs place []) basis.only p.first.has.listed;
    before = λ y h n. subst (λ (o : Option Vector). StandsBefore o (get_or xs place []) y) (sym given) (by_lt_z (pos 0) (degree grading y)
        (λ (lt : pos 0 <ℤ degree grading y). inl (below (degree grading (get_or xs place [])) (degree grading y) p.first.has.not_positive lt))
        (λ (le : degree grading y ≤ℤ pos 0). p.first.before y (record { listed = basis.each y h; not_positive = le }) n));
  };
  not_positive = p.first.has.not_positive;
}

same_grading : (g h : Vector) → Some g ≡ Some h → g ≡ h
same_grading g h e = cc

not_both : (d : ℤ) → pos 0 <ℤ d → ¬ (d ≤ℤ pos 0)
not_both d p q = omega (arith, ints, p, q)

pub positive_has_none : (s : System) (grading : Vector) → s.grading ≡ Some grading → (xs : List Vector) → ListsOnce (IsHilbertElement s) xs → Each (λ x. pos 0 <ℤ degree grading x) xs → (x : Vector) → ¬ IsFirstNotPositive s x
positive_has_none s grading given xs basis positive x f =
    let e = same_grading f.grading grading (sym f.given ∙ given) in
    not_both (degree grading x) (Each-contains (λ y. pos 0 <ℤ degree grading y) xs x positive (basis.each x f.first.has)) (subst (λ (g : Vector). degree g x ≤ℤ pos 0) e f.not_positive)

pub ones_are_elements : (s : System) (grading : Vector) → s.grading ≡ Some grading → (xs ones : List Vector) → IsHilbertBasis s xs → (g : ℤ) → IsDenominator grading xs g → Picks (λ x. degree grading x ≡ g) xs ones → AreDegreeOneElements s g ones
ones_are_elements s grading given xs ones basis g denominator p = record {
  grading = grading;
  given = given;
  basis = xs;
  is_basis = basis;
  denominator = denominator;
  of_degree = record {
    grading = grading;
    given = given;
    list = IsListOf-where (StandsBefore s.grading) (λ x. IsHilbertElement s x × (degree grading x ≡ g)) (IsOfDegree s grading g)
        (λ x h. record { element = h.0; of_degree = h.1 }) (λ x h. (h.element, h.of_degree)) ones
        (Picks-list (StandsBefore s.grading) (IsHilbertElement s) (λ x. degree grading x ≡ g) xs ones basis p);
  };
}

-- what is different, and not in the wrong order, is in order
module _ (w : ℕ) (grading : Option Vector) where
  stands_first : (x : Vector) (ys : List Vector) → HasWidth w x → Each (HasWidth w) ys → Each (λ y. x ≢ y) ys → Each (λ y. ¬ StandsBefore grading y x) ys → Each (StandsBefore grading x) ys
  stands_first x [] wx h d n = tt
  stands_first x (y ∷ ys) wx h d n = (
    elim (stands_cases grading x y (wx ∙ sym h.0)) [
      | inl b ↦ b
      | inr (inl e) ↦ absurd (d.0 e)
      | inr (inr b) ↦ absurd (n.0 b)
    ],
    stands_first x ys wx h.1 d.1 n.1,
  )

  strictly : (ys : List Vector) → Each (HasWidth w) ys → Pairwise ◌≢◌ ys → Pairwise (λ x y. ¬ StandsBefore grading y x) ys → Pairwise (StandsBefore grading) ys
  strictly [] h d n = tt
  strictly (y ∷ ys) h d n = (stands_first y ys h.0 h.1 d.0 n.0, strictly ys h.1 d.1 n.1)

  sorted_set : (P : Vector → Type 0) → ((x : Vector) → P x → HasWidth w x) → (xs ys : List Vector) → ListsOnce P xs → IsPermutation xs ys → IsInOrder grading ys → IsListOf (StandsBefore grading) P ys
  sorted_set P wide xs ys once moved order =
      let q = permuted_once P xs ys once moved in
      record { in_order = strictly ys (Each-weaker P (HasWidth w) wide ys q.only) q.in_order order; only = q.only; each = q.each }

  pub sorted_is_list : (xs ys : List Vector) → Each (HasWidth w) xs → Pairwise ◌≢◌ xs → IsPermutation xs ys → IsInOrder grading ys → IsListOf (StandsBefore grading) (Contains xs) ys
  sorted_is_list xs ys wide different moved order =
      sorted_set (Contains xs) (λ x c. Each-contains (HasWidth w) xs x wide c) xs ys (record { in_order = different; only = Each-from_contains (Contains xs) xs (λ x c. c); each = λ x c. c }) moved order

pub sorted_is_basis : (s : System) (xs ys : List Vector) → ListsOnce (IsHilbertElement s) xs → IsPermutation xs ys → IsInOrder s.grading ys → IsHilbertBasis s ys
sorted_is_basis s xs ys once moved order = sorted_set s.width s.grading (IsHilbertElement s) (λ x h. h.irreducible.member.width) xs ys once moved order

pub sorted_are_modules : (s : System) (xs ys : List Vector) → ListsOnce (IsModuleGenerator (IsMember s)) xs → IsPermutation xs ys → IsInOrder s.grading ys → AreModuleGenerators s ys
sorted_are_modules s xs ys once moved order = sorted_set s.width s.grading (IsModuleGenerator (IsMember s)) (λ x h. h.of_level_one.member.width) xs ys once moved order
