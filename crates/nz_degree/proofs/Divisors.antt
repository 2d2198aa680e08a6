-- The denominator of a grading from the common divisors of the degrees.
use Rattle.std.proofs.Common.{◌≡◌, ◌≢◌, inl, inr, ℕ, zero, suc, ◌+◌, ◌<◌, ◌≤◌, true, false, List, [], ◌∷◌, length, take, get_or, map, ℤ, pos, negsuc, ◌≤ℤ◌, refl, sym, ap, ◌∙◌, subst, arith, take_all}
use Rattle.std.specs.List.{AllByRecursion as Each}
use Rattle.std.proofs.lemmas.Int.{ints}
use Rattle.std.proofs.lemmas.List.{length-map}
use Rattle.std.proofs.Math.IntN.{*ℤ-zero}
use Rattle.nz_spec.specs.Vectors.{Vector, IsMultipleOf}
use Rattle.nz_spec.specs.Order.{degree}
use Rattle.nz_spec.proofs.IntLaws.{multiple_zero}
use Rattle.nz_scalar.specs.Division.{HasGcd}
use Rattle.nz_vec.specs.Primitives.{HasDivisorsOf}
use Rattle.nz_vec.proofs.DivisorLemmas.{divisors_more}
use Rattle.nz_further.specs.Denominators.{HaveDegreeZero, IsDenominator}

-- the degrees of the rows
abbrev pub degrees : Vector → List Vector → List ℤ
degrees grading xs = map (degree grading) xs

to_degrees : (P : ℤ → Type 0) (grading : Vector) (xs : List Vector) → Each (λ x. P (degree grading x)) xs → Each P (degrees grading xs)
to_degrees P grading [] h = tt
to_degrees P grading (x ∷ xs) h = (h.0, to_degrees P grading xs h.1)

of_degrees : (P : ℤ → Type 0) (grading : Vector) (xs : List Vector) → Each P (degrees grading xs) → Each (λ x. P (degree grading x)) xs
of_degrees P grading [] h = tt
of_degrees P grading (x ∷ xs) h = (h.0, of_degrees P grading xs h.1)

-- a multiple of 0 is 0
only_zero : (z : ℤ) → IsMultipleOf (pos 0) z → z ≡ pos 0
only_zero z m = m.1 ∙ *ℤ-zero m.0

zeros : (grading : Vector) (xs : List Vector) → Each (λ x. IsMultipleOf (pos 0) (degree grading x)) xs → HaveDegreeZero grading xs
zeros grading [] h = tt
zeros grading (x ∷ xs) h = (only_zero (degree grading x) h.0, zeros grading xs h.1)

of_zeros : (grading : Vector) (xs : List Vector) → HaveDegreeZero grading xs → Each (λ x. IsMultipleOf (pos 0) (degree grading x)) xs
of_zeros grading [] h = tt
of_zeros grading (x ∷ xs) h = (subst (λ (z : ℤ). IsMultipleOf (pos 0) z) (sym h.0) (multiple_zero (pos 0)), of_zeros grading xs h.1)

by_one : (grading : Vector) (xs : List Vector) → Each (λ x. IsMultipleOf (pos 1) (degree grading x)) xs
by_one grading [] = tt
by_one grading (x ∷ xs) = ((degree grading x, omega (arith, ints)), by_one grading xs)

pub false_not_true : false ≡ true → ⊥
false_not_true e = absurd cc

-- one row more, of this degree
pub degree_next : (grading : Vector) (list : List Vector) (k : ℕ) (row : Vector) (v h d : ℤ) → k < length list → row ≡ get_or list k [] → v ≡ degree grading row → HasDivisorsOf (take k (degrees grading list)) h → HasDivisorsOf (h ∷ v ∷ []) d → HasDivisorsOf (take (k + 1) (degrees grading list)) d
degree_next grading list k row v h d l e f p q =
    let more : k < length (degrees grading list) = omega (arith, length-map list (degree grading), l) in
    let value : v ≡ get_or (degrees grading list) k (pos 0) = f ∙ ap (degree grading) e ∙ at_degrees grading list k l in
    divisors_more (degrees grading list) k v h d more value p q
  where
    at_degrees : (grading : Vector) (list : List Vector) (k : ℕ) → k < length list → degree grading (get_or list k []) ≡ get_or (degrees grading list) k (pos 0)
    at_degrees grading [] k l = absurd (omega arith)
    at_degrees grading (x ∷ xs) zero l = refl
    at_degrees grading (x ∷ xs) (suc k) l = at_degrees grading xs k (omega arith)

pub degrees_all : (grading : Vector) (list : List Vector) (k : ℕ) (h : ℤ) → length list ≤ k → HasDivisorsOf (take k (degrees grading list)) h → HasDivisorsOf (degrees grading list) h
degrees_all grading list k h l p = subst (λ (xs : List ℤ). HasDivisorsOf xs h) (take_all k (degrees grading list) (omega (arith, length-map list (degree grading), l))) p

module _ (grading : Vector) (list : List Vector) (h : ℤ) (p : HasDivisorsOf (degrees grading list) h) where
  divides_each : (k : ℤ) → IsMultipleOf k h → Each (λ x. IsMultipleOf k (degree grading x)) list
  divides_each k m = of_degrees (IsMultipleOf k) grading list ((p k).0 m)

  divides_held : (k : ℤ) → Each (λ x. IsMultipleOf k (degree grading x)) list → IsMultipleOf k h
  divides_held k m = (p k).1 (to_degrees (IsMultipleOf k) grading list m)

  held_zero : HaveDegreeZero grading list → h ≡ pos 0
  held_zero none = only_zero h (divides_held (pos 0) (of_zeros grading list none))

  -- where all degrees are 0 the denominator is 1
  pub denominator_one : (g : ℤ) → h ≡ pos 0 → g ≡ pos 1 → IsDenominator grading list g
  denominator_one g z e =
      let none = zeros grading list (divides_each (pos 0) (subst (λ (t : ℤ). IsMultipleOf (pos 0) t) (sym z) (multiple_zero (pos 0)))) in
      record {
        at_least = omega (arith, ints, e);
        divides = subst (λ (t : ℤ). Each (λ x. IsMultipleOf t (degree grading x)) list) (sym e) (by_one grading list);
        greatest = λ d m. inl none;
        of_none = λ m. e;
      }

  -- else it is the gcd
  pub denominator_gcd : (g z : ℤ) → h ≢ pos 0 → z ≡ pos 0 → HasGcd (h ∷ z ∷ []) g → IsDenominator grading list g
  denominator_gcd g z n e is = record {
    at_least = positive g is.nonneg (λ nought. n (only_zero h (subst (λ (t : ℤ). IsMultipleOf t h) nought is.divides.0)));
    divides = divides_each g is.divides.0;
    greatest = λ d m. inr (is.greatest d (divides_held d m, (subst (λ (t : ℤ). IsMultipleOf d t) (sym e) (multiple_zero d), tt)));
    of_none = λ none. absurd (n (held_zero none));
  }
    where
      positive : (g : ℤ) → pos 0 ≤ℤ g → g ≢ pos 0 → pos 1 ≤ℤ g
      positive (pos zero) l n = absurd (n refl)
      positive (pos (suc m)) l n = omega (arith, ints)
      positive (negsuc m) l n = absurd (let f : ⊥ = omega (arith, ints, l) in f)

  -- so that it is no value where the gcd is none
  pub denominator_lacks : (fits : ℤ → Type 0) (z : ℤ) → h ≢ pos 0 → z ≡ pos 0 → ((d : ℤ) → HasGcd (h ∷ z ∷ []) d → ¬ fits d) → (g : ℤ) → IsDenominator grading list g → ¬ fits g
  denominator_lacks fits z n e lacks g is = lacks g (record {
    nonneg = omega (arith, ints, is.at_least);
    divides = (divides_held g is.divides, (subst (λ (t : ℤ). IsMultipleOf g t) (sym e) (multiple_zero g), tt));
    greatest = λ k m. elim (is.greatest k (divides_each k m.0)) [
      | inl none ↦ absurd (n (held_zero none))
      | inr q ↦ q
    ];
  })
